use Rattle.boundary.specs.Merge.{op_of}
use Rattle.boundary.proofs.Sweeping.{Sweeping}
use Rattle.merge.proofs.merging.Merge.sweep.Given as goal

abbrev pub invariant-loop-n : goal.invariant-loop-n
invariant-loop-n g l =
    Sweeping g.C.Output.store g.C.Output.room (op_of l.self.op.table) (g.A.Word.words l.self.left.now) (g.B.Word.words l.self.right.now) l.initial.s
    (g.C.Output.cells l.initial.out) l._n l.s (g.C.Output.cells l.out)
