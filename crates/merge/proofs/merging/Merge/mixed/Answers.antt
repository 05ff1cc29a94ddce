use Rattle.std.proofs.Common.{rules}
use Rattle.boundary.proofs.Sweeping.{sixteen-left}
use Rattle.merge.proofs.merging.Merge.mixed.Goals as goal

pub no_stretch_ahead-requires : goal.no_stretch_ahead-requires
no_stretch_ahead-requires g c = search (rules, sixteen-left)

pub returns-then-sixteen_left : goal.returns-then-sixteen_left
returns-then-sixteen_left g c = search (rules, sixteen-left)
