use Rattle.std.proofs.Common.{rules}
use Rattle.boundary.proofs.Values.{state-is}
use Rattle.boundary.proofs.table.Operation.state.Goals as goal

pub returns : goal.returns
returns c = search (rules, state-is)
