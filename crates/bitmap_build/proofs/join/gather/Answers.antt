use Rattle.std.proofs.Common.{◌≡◌, rules, ◌-◌, cond, length}
use Rattle.bitmap_build.proofs.Gathering.{items_start, items_next, items_end}
use Rattle.bitmap_build.proofs.join.gather.Goals.{then-descending, else-descending}
use Rattle.bitmap_build.proofs.join.gather.Goals as goal

pub loop-i-init : goal.loop-i-init
loop-i-init g c = search (rules, items_start)

pub loop-i-preserved : goal.loop-i-preserved
loop-i-preserved g c =
    let at : c.if-descending.at ≡ cond c.is_descending-descending.result (length c.args.items.now - 1 - c.loop-i.i) c.loop-i.i =
    elim c.if-descending.branch [ then-descending w ↦ search rules | else-descending w ↦ search rules ] in
    search (rules, items_next, at)

pub returns : goal.returns
returns g c = search (rules, items_end)
