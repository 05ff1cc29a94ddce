use Rattle.std.proofs.Common.{rules}
use Rattle.boundary.proofs.Sweeping.{swept}
use Rattle.merge.proofs.merging.Merge.step.Goals as goal

pub returns : goal.returns
returns g c = let l = g.met.C.Output.storing in search (rules, swept)
