use Rattle.std.proofs.Common.{rules}
use Rattle.boundary.proofs.Values.{op-left_only}
use Rattle.bitmap.proofs.sets.difference.Goals as goal

pub returns : goal.returns
returns c = search (rules, op-left_only)
