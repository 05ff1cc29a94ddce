use Rattle.fields.proofs.Copying.{Copying}
use Rattle.fields.proofs.write.copy_bytes.Given as goal

abbrev pub invariant-loop-i : goal.invariant-loop-i
invariant-loop-i l = Copying l.bytes l.initial.out l.i l.out
