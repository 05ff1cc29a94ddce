use Rattle.std.proofs.Common.{rules}
use Rattle.boundary.proofs.Values.{op-both}
use Rattle.bitmap.proofs.sets.intersect.Goals as goal

pub returns : goal.returns
returns c = search (rules, op-both)
