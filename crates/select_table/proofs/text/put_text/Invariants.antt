use Rattle.select_table.proofs.Lines.{Lines}
use Rattle.select_table.proofs.text.put_text.Given as goal

abbrev pub invariant-loop-i : goal.invariant-loop-i
invariant-loop-i l = Lines l.i l.out
