use Rattle.std.proofs.Common.{rules}
use Rattle.index.proofs.LookupCalls.{part_in, part-known, part-missing}
use Rattle.index.proofs.lookup.block_part.Goals as goal

pub length_at-stated-requires : goal.length_at-stated-requires
length_at-stated-requires c = search (rules, part_in)

pub overflow_sub-index : goal.overflow_sub-index
overflow_sub-index c = search (rules, part_in)

pub returns-then-place-clause-part : goal.returns-then-place-clause-part
returns-then-place-clause-part c = search (rules, part-known)

pub returns-clause-part : goal.returns-clause-part
returns-clause-part c = search (rules, part-missing)
