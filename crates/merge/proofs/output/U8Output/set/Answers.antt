use Rattle.std.proofs.Common.{rules}
use Rattle.boundary.proofs.Storing.{bytes-set}
use Rattle.merge.proofs.output.U8Output.set.Goals as goal

pub returns : goal.returns
returns c = search (rules, bytes-set)
