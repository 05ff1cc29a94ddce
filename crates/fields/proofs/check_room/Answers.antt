use Rattle.std.proofs.Common.{rules}
use Rattle.fields.proofs.Limits.{room-short, room-limit, room_fits}
use Rattle.fields.proofs.check_room.Goals as goal

pub returns-then-room-n : goal.returns-then-room-n
returns-then-room-n c = search (rules, room-short)

pub returns-then-limit-n : goal.returns-then-limit-n
returns-then-limit-n c = search (rules, room-limit)

pub returns : goal.returns
returns c = search (rules, room_fits)
