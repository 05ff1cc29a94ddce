use Rattle.std.proofs.Common.{length, ◌/◌}
use Rattle.bit_rank.specs.BitRanks.{bit_ranges}
use Rattle.fields.proofs.Storing.{Storing}
use Rattle.bit_rank.proofs.put_ranges.Given as goal

abbrev pub invariant-loop-i : goal.invariant-loop-i
invariant-loop-i l = Storing (bit_ranges l.ranks.indexed.bits.bytes.now l.ranks.end l.pairs) (length l.pairs / 2) l.initial.out l.i l.out
