use Rattle.std.proofs.Common.{◌+◌, ◌*◌}
use Rattle.packed.specs.Bits.{set_below}
use Rattle.bit_select.proofs.Blocks.{Passing}
use Rattle.bit_select.proofs.selected.find_word.Given as goal

abbrev pub invariant-loop-i : goal.invariant-loop-i
invariant-loop-i l = Passing l.bits l.first (set_below l.bits (l.first * 64) + l.initial.left) (l.first + l.i) l.left
