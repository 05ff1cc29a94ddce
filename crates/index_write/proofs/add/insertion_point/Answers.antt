use Rattle.std.proofs.Common.{rules}
use Rattle.index_write.proofs.Inserting.{point-below, point-one, point-missing, point-known}
use Rattle.index_write.proofs.add.insertion_point.Goals as goal

pub overflow_sub-result : goal.overflow_sub-result
overflow_sub-result c = search (rules, point-below, c.args.index.accepted, c.args.index.entry_count)

pub overflow_sub-result-then-known : goal.overflow_sub-result-then-known
overflow_sub-result-then-known c = search (rules, point-one, c.args.index.accepted, c.args.index.entry_count)

pub returns-then-known : goal.returns-then-known
returns-then-known c = search (rules, point-known, c.args.index.accepted, c.args.index.entry_count)

pub overflow_sub-result-2 : goal.overflow_sub-result-2
overflow_sub-result-2 c = search (rules, point-below, c.args.index.accepted, c.args.index.entry_count)

pub returns : goal.returns
returns c = search (rules, point-missing, c.args.index.accepted, c.args.index.entry_count)
