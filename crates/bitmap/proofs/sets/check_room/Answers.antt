use Rattle.std.proofs.Common.{rules}
use Rattle.bitmap.proofs.SetCalls.{room_most}
use Rattle.bitmap.proofs.sets.check_room.Goals as goal

pub returns-then-most-le-MAX_WORDS : goal.returns-then-most-le-MAX_WORDS
returns-then-most-le-MAX_WORDS c = search (rules, room_most)
