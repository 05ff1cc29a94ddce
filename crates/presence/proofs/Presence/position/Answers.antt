use Rattle.std.proofs.Common.{rules}
use Rattle.presence.proofs.PresentLaws.{position-some, position-none}
use Rattle.presence.proofs.Presence.position.Goals as goal

pub returns-then-bit_at : goal.returns-then-bit_at
returns-then-bit_at c = search (rules, position-some)

pub returns : goal.returns
returns c = search (rules, position-none)
