use Rattle.boundary.proofs.Stretches.{Sharing}
use Rattle.merge.proofs.merging.Merge.shared.Given as goal

abbrev pub invariant-loop-n : goal.invariant-loop-n
invariant-loop-n g l = Sharing (g.A.Word.words l.self.left.now) (g.B.Word.words l.self.right.now) l.i l.j l.most l.n
