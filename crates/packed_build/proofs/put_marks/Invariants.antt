use Rattle.packed_build.proofs.Marking.{Marking}
use Rattle.packed_build.proofs.put_marks.Given as goal

abbrev pub invariant-loop-left : goal.invariant-loop-left
invariant-loop-left l = Marking l.word l.base l.first l.initial.out l.left l.k l.out

abbrev pub decreases-loop-left : goal.decreases-loop-left
decreases-loop-left l = l.left
