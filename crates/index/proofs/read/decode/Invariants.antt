use Rattle.index.proofs.Walk.{Passing, Walked}
use Rattle.index.proofs.read.decode.Given as goal

abbrev pub invariant-loop-j : goal.invariant-loop-j
invariant-loop-j l = Passing l.block l.n l.j l.previous

abbrev pub invariant-loop : goal.invariant-loop
invariant-loop l = Walked l.index l.entries l.counter l.at l.last l.runs
