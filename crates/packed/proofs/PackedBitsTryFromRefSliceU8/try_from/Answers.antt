use Rattle.std.proofs.Common.{rules}
use Rattle.fields.proofs.Limits.{long-found, long-none}
use Rattle.packed.proofs.PackedBitsTryFromRefSliceU8.try_from.Goals as goal

pub returns-then-bits-gt-MAX_BYTES : goal.returns-then-bits-gt-MAX_BYTES
returns-then-bits-gt-MAX_BYTES c = search (rules, long-found)

pub returns : goal.returns
returns c = search (rules, long-none)
