use Rattle.std.proofs.Common.{rules}
use Rattle.packed.proofs.Counts.{bit-there, bit_past}
use Rattle.packed.proofs.bit_at.Goals as goal

pub returns-then-at-bits : goal.returns-then-at-bits
returns-then-at-bits c = search (rules, bit-there)

pub returns : goal.returns
returns c = search (rules, bit_past)
