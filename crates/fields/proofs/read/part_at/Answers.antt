use Rattle.std.proofs.Common.{rules}
use Rattle.fields.proofs.Numbers.{read_past}
use Rattle.fields.proofs.read.part_at.Goals as goal

pub returns-then-bytes-at : goal.returns-then-bytes-at
returns-then-bytes-at c = search (rules, read_past)
