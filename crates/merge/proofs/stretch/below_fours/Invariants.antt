use Rattle.std.proofs.Common.{length, ◌-◌, Some}
use Rattle.boundary.specs.Walk.{Below}
use Rattle.merge.proofs.stretch.below_fours.Given as goal

abbrev pub invariant-loop-i : goal.invariant-loop-i
invariant-loop-i g l = Below (g.A.Word.words l.words) l.from (Some l.bound) l.i

abbrev pub decreases-loop-i : goal.decreases-loop-i
decreases-loop-i g l = length (g.A.Word.words l.words) - l.i
