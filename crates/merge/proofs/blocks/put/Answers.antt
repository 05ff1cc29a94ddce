use Rattle.std.proofs.Common.{rules}
use Rattle.boundary.proofs.Storing.{bytes-past}
use Rattle.merge.proofs.blocks.put.Goals as goal

pub returns-else-k-out : goal.returns-else-k-out
returns-else-k-out c = search (rules, bytes-past)
