use Rattle.std.proofs.Common.{rules}
use Rattle.presence.proofs.PresentLaws.{present-word}
use Rattle.press.proofs.present.mudcanvas_raw_present_position.Goals as goal

pub returns : goal.returns
returns c = search (rules, present-word)
