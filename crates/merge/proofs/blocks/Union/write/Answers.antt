use Rattle.std.proofs.Common.{rules, ◌≤◌, ◌⊎◌, inl, inr}
use Rattle.boundary.proofs.Advancing.{merging_start}
use Rattle.boundary.proofs.Uniting.{uniting-both, uniting-next}
use Rattle.merge.proofs.WordCopies.{united-copies}
use Rattle.merge.proofs.blocks.Union.write.Goals.{then-loop-at-test+else-at-n, else-loop-at-test}
use Rattle.merge.proofs.blocks.Union.write.Goals as goal

pub loop-at-init : goal.loop-at-init
loop-at-init c = search (rules, merging_start)

pub unite_some-at-requires : goal.unite_some-at-requires
unite_some-at-requires c = search (rules, uniting-both)

pub loop-at-preserved : goal.loop-at-preserved
loop-at-preserved c = search (rules, uniting-next)

pub returns : goal.returns
returns c =
    let used : (c.count-m.result ≤ c.loop-at.at.i) ⊎ (c.count-n.result ≤ c.loop-at.at.j) =
    elim c.loop-at-test.branch [ then-loop-at-test+else-at-n w ↦ inr w.if-at-n.false | else-loop-at-test w ↦ inl w.loop-at-test.false ] in
    search (rules, united-copies)
