use Rattle.std.proofs.Common.{rules}
use Rattle.boundary.proofs.Advancing.{merging_start, merging-next, merged}
use Rattle.merge.proofs.merging.Merge.write.Goals as goal

pub loop-at-init : goal.loop-at-init
loop-at-init g c = search (rules, merging_start)

pub loop-at-preserved : goal.loop-at-preserved
loop-at-preserved g c = search (rules, merging-next)

pub returns : goal.returns
returns g c = search (rules, merged)
