use Rattle.boundary.proofs.Stores.{Copying}
use Rattle.merge.proofs.stretch.store.Given as goal

abbrev pub invariant-loop-i : goal.invariant-loop-i
invariant-loop-i g l =
    Copying g.C.Output.store g.C.Output.room (g.A.Word.words l.words) (g.C.Output.cells l.initial.out) l.from l.to l.k l.most l.i (g.C.Output.cells l.out)
