use Rattle.std.proofs.Common.{rules}
use Rattle.boundary.proofs.Values.{op-either}
use Rattle.bitmap.proofs.sets.union.Goals as goal

pub returns : goal.returns
returns c = search (rules, op-either)
