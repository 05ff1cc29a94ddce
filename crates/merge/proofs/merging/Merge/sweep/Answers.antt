use Rattle.std.proofs.Common.{rules}
use Rattle.boundary.proofs.Sweeping.{sweeping-next}
use Rattle.merge.proofs.merging.Merge.sweep.Goals as goal

pub loop-n-preserved : goal.loop-n-preserved
loop-n-preserved g c = search (rules, sweeping-next)
