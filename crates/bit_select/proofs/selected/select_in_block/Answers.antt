use Rattle.std.proofs.Common.{arith}
use Rattle.packed.proofs.Counts.{are-bytes}
use Rattle.bit_select.proofs.Blocks.{word-small, word-there, word-placed}
use Rattle.bit_select.proofs.selected.select_in_block.Goals as goal

pub overflow_mul-result : goal.overflow_mul-result
overflow_mul-result c = omega (arith, c.requires.short, word-there _ (are-bytes _ c.type_inv.bits) _ _ _ _ c.in_ok-spot.ensures)

pub select_in_word-requires : goal.select_in_word-requires
select_in_word-requires c = c.in_ok-spot.ensures.inside

pub overflow_add-result : goal.overflow_add-result
overflow_add-result c =
    let bytes = are-bytes _ c.type_inv.bits in
    let m = c.in_ok-spot.ensures in
    omega (arith, c.requires.short, word-there _ bytes _ _ _ _ m, word-small _ bytes _ _ _ _ m _ c.select_in_word.ensures)

pub returns : goal.returns
returns c = word-placed _ (are-bytes _ c.type_inv.bits) _ _ _ _ c.in_ok-spot.ensures _ c.select_in_word.ensures
