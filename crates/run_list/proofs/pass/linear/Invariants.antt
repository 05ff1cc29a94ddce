use Rattle.run_list.proofs.Searching.{Linear}
use Rattle.run_list.proofs.pass.linear.Given as goal

abbrev pub invariant-loop : goal.invariant-loop
invariant-loop l = Linear l.words l.row l.base l.size l.at l.counter
