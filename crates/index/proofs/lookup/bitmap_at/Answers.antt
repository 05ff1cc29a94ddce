use Rattle.std.proofs.Common.{rules}
use Rattle.index.proofs.LookupCalls.{part_none, part-is, part-some}
use Rattle.index.proofs.lookup.bitmap_at.Goals as goal

pub returns-then-is_err-clause-part : goal.returns-then-is_err-clause-part
returns-then-is_err-clause-part c = search (rules, part_none)

pub returns-clause-part : goal.returns-clause-part
returns-clause-part c = search (rules, part-is)

pub returns-clause-some : goal.returns-clause-some
returns-clause-some c = search (rules, part-some)
