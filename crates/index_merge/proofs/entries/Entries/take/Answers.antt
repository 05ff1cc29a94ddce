use Rattle.std.proofs.Common.{rules}
use Rattle.index.proofs.Entries.{head_length}
use Rattle.index_merge.proofs.Taking.{taken-none, some-left, length-there, next-place, next-right, taken-first}
use Rattle.index_merge.proofs.entries.Entries.take.Goals as goal

pub returns-then-ne : goal.returns-then-ne
returns-then-ne c = search (rules, taken-none, c.args.self.now.short)

pub slice_bounds-u32_at-end : goal.slice_bounds-u32_at-end
slice_bounds-u32_at-end c = search (rules, length-there, c.args.self.now.right)

pub overflow_sub-self : goal.overflow_sub-self
overflow_sub-self c = search (rules, some-left)

pub invariant_of-self : goal.invariant_of-self
invariant_of-self c = search (rules, next-place, next-right, head_length, c.args.self.now.short, c.args.self.now.right)

pub returns : goal.returns
returns c = search (rules, taken-first, head_length, c.args.self.now.short, c.args.self.now.right)
