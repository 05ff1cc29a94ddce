use Rattle.std.proofs.Common.{arith, refl}
use Rattle.bit_select.proofs.Words.{byte-done}
use Rattle.bit_select.proofs.word.select_in_word.Goals as goal

pub returns : goal.returns
returns c =
    let last = byte-done c.narrow-c.result.digits c.narrow-c.result.left _ c.narrow-c.ensures.inside refl _ c.select_in_byte.ensures in
    omega (arith, c.narrow-a.ensures.same, c.narrow-b.ensures.same, c.narrow-c.ensures.same, last)
