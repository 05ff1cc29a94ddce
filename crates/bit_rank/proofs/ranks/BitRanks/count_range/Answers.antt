use Rattle.std.proofs.Common.{rules}
use Rattle.bit_rank.proofs.BitLaws.{range_none, range-order, range-is}
use Rattle.bit_rank.proofs.ranks.BitRanks.count_range.Goals as goal

pub returns-then-to-from : goal.returns-then-to-from
returns-then-to-from c = search (rules, range_none)

pub overflow_sub-result : goal.overflow_sub-result
overflow_sub-result c = search (rules, range-order)

pub returns : goal.returns
returns c = search (rules, range-is)
