use Rattle.std.proofs.Common.{rules}
use Rattle.bitmap_build.proofs.Gathering.{joining-start, joining-next, joining-end}
use Rattle.bitmap_build.proofs.join.join.Goals as goal

pub loop-i-init : goal.loop-i-init
loop-i-init c = search (rules, joining-start)

pub loop-i-preserved : goal.loop-i-preserved
loop-i-preserved c = search (rules, joining-next)

pub returns : goal.returns
returns c = search (rules, joining-end)
