use Rattle.std.proofs.Common.{rules}
use Rattle.boundary.proofs.Advancing.{by-bytes}
use Rattle.boundary.proofs.Uniting.{even-words, few-words}
use Rattle.merge.proofs.blocks.union_blocks.Goals as goal

pub invariant_of-write : goal.invariant_of-write
invariant_of-write c = search (rules, even-words, few-words)

pub returns : goal.returns
returns c = search (rules, by-bytes)
