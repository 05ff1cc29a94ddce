use Rattle.std.proofs.Common.{rules}
use Rattle.boundary.proofs.Storing.{bytes-same}
use Rattle.merge.proofs.output.U8Output.get.Goals as goal

pub returns : goal.returns
returns c = search (rules, bytes-same)
