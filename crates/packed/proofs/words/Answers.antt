use Rattle.std.proofs.Common.{◌/◌, length, arith}
use Rattle.fields.proofs.WordLists.{chunk_at, chunks-length}
use Rattle.packed.proofs.words.Goals as goal

pub returns : goal.returns
returns c =
    let bs = c.args.bits.now in
    rw c.as_chunks.ensures.front (record { count = chunks-length 8 (length bs / 8) bs; each = λ i h. chunk_at (length bs / 8) i bs (omega (arith, chunks-length 8 (length bs / 8) bs)) })
