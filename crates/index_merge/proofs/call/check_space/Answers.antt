use Rattle.std.proofs.Common.{rules}
use Rattle.index_merge.proofs.Calling.{lengths-count, space-sure}
use Rattle.index_merge.proofs.call.check_space.Goals as goal

pub overflow_sub-most : goal.overflow_sub-most
overflow_sub-most c = search (rules, lengths-count)

pub returns-then-is_ok : goal.returns-then-is_ok
returns-then-is_ok c = search (rules, space-sure, c.args.first.accepted, c.args.second.accepted)
