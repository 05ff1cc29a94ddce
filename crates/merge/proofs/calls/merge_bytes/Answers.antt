use Rattle.std.proofs.Common.{rules}
use Rattle.boundary.proofs.Advancing.{by-bytes}
use Rattle.merge.proofs.calls.merge_bytes.Goals as goal

pub returns : goal.returns
returns c = search (rules, by-bytes)
