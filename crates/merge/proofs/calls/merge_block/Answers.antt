use Rattle.std.proofs.Common.{rules}
use Rattle.boundary.proofs.Advancing.{by-words}
use Rattle.merge.proofs.calls.merge_block.Goals as goal

pub returns : goal.returns
returns c = search (rules, by-words)
