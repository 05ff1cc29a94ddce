use Rattle.fields.proofs.Numbers.{Summed}
use Rattle.fields.proofs.read.tail_at.Given as goal

abbrev pub invariant-loop-i : goal.invariant-loop-i
invariant-loop-i l = Summed l.bytes l.at l.i l.sum
