use Rattle.std.proofs.Common.{rules}
use Rattle.presence.proofs.PresentLaws.{position-number}
use Rattle.presence.proofs.PresenceLookup.look_up.Goals as goal

pub returns : goal.returns
returns c = search (rules, position-number)
