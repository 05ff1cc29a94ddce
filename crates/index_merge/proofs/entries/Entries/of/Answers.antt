use Rattle.std.proofs.Common.{rules}
use Rattle.index_merge.proofs.Taking.{all-short, all-place, all-right, all-listed}
use Rattle.index_merge.proofs.entries.Entries.of.Goals as goal

pub invariant_of-result : goal.invariant_of-result
invariant_of-result c = search (rules, all-short, all-place, all-right, c.args.index.accepted, c.args.index.entry_count)

pub returns : goal.returns
returns c = search (rules, all-listed, c.args.index.accepted, c.args.index.entry_count)
