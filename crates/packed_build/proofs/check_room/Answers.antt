use Rattle.std.proofs.Common.{rules}
use Rattle.packed_build.proofs.PackedCalls.{room_most}
use Rattle.packed_build.proofs.check_room.Goals as goal

pub returns-then-most-le-MAX_WORDS : goal.returns-then-most-le-MAX_WORDS
returns-then-most-le-MAX_WORDS c = search (rules, room_most)
