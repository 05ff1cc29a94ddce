use Rattle.std.proofs.Common.{rules}
use Rattle.run_rank.proofs.DirectoryCalls.{entry_next, entry-order, entry-fits}
use Rattle.run_rank.proofs.directory.next_entry.Goals as goal

pub overflow_sub-result : goal.overflow_sub-result
overflow_sub-result c = search (rules, entry-order, c.args.runs.accepted)

pub overflow_add-result-2 : goal.overflow_add-result-2
overflow_add-result-2 c = search (rules, entry-fits, c.args.runs.accepted, c.args.runs.small)

pub returns : goal.returns
returns c = search (rules, entry_next)
