use Rattle.std.proofs.Common.{Some}
use Rattle.boundary.specs.Walk.{Below}
use Rattle.merge.proofs.stretch.below.Given as goal

abbrev pub invariant-loop-i : goal.invariant-loop-i
invariant-loop-i g l = Below (g.A.Word.words l.words) l.from (Some l.bound) l.i
