use Rattle.std.proofs.Common.{map, length}
use Rattle.fields.specs.Bytes.{from_le}
use Rattle.fields.proofs.Storing.{Storing}
use Rattle.run_list.proofs.block.copy_words.Given as goal

abbrev pub invariant-loop-i : goal.invariant-loop-i
invariant-loop-i l = Storing (map from_le l.words) (length l.words) l.initial.out l.i l.out
