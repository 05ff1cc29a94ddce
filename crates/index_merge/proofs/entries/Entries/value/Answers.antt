use Rattle.std.proofs.Common.{rules}
use Rattle.index.proofs.Entries.{head_value}
use Rattle.index_merge.proofs.Taking.{head-none, head-there, head-some}
use Rattle.index_merge.proofs.entries.Entries.value.Goals as goal

pub returns-then-self-eq0 : goal.returns-then-self-eq0
returns-then-self-eq0 c = search (rules, head-none)

pub slice_bounds-load_word-end : goal.slice_bounds-load_word-end
slice_bounds-load_word-end c = search (rules, head-there, c.args.self.now.right)

pub returns : goal.returns
returns c = search (rules, head-some, head_value)
