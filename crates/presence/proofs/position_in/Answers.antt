use Rattle.std.proofs.Common.{rules}
use Rattle.packed.proofs.Directories.{from-none}
use Rattle.presence.proofs.PresentLaws.{position-some, position-none}
use Rattle.presence.proofs.position_in.Goals as goal

pub returns-then-bit_at : goal.returns-then-bit_at
returns-then-bit_at c = search (rules, position-some, from-none)

pub returns : goal.returns
returns c = search (rules, position-none)
