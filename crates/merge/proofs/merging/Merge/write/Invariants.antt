use Rattle.std.proofs.Common.{◌+◌, ◌-◌}
use Rattle.boundary.specs.Merge.{op_of}
use Rattle.boundary.proofs.Advancing.{Merging}
use Rattle.merge.proofs.merging.Merge.write.Given as goal

abbrev pub invariant-loop-at : goal.invariant-loop-at
invariant-loop-at g l =
    Merging g.C.Output.store (op_of l.self.op.table) (g.A.Word.words l.self.left.now) (g.B.Word.words l.self.right.now) (g.C.Output.cells l.initial.out) l.total l.at
    (g.C.Output.cells l.out)

abbrev pub decreases-loop-at : goal.decreases-loop-at
decreases-loop-at g l = l.total - (l.at.i + l.at.j)
