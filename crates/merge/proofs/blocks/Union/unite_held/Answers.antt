use Rattle.std.proofs.Common.{rules}
use Rattle.boundary.proofs.Holding.{held_on}
use Rattle.merge.proofs.blocks.Union.unite_held.Goals as goal

pub returns : goal.returns
returns c = search (rules, held_on)
