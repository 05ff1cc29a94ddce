use Rattle.std.proofs.Common.{rules}
use Rattle.boundary.proofs.Uniting.{united}
use Rattle.merge.proofs.blocks.Union.unite.Goals as goal

pub returns : goal.returns
returns c = search (rules, united)
