use Rattle.std.proofs.Common.{rules}
use Rattle.run_list.proofs.Searching.{quarter-is}
use Rattle.run_list.proofs.pass.narrow.Goals as goal

pub returns : goal.returns
returns c = search (rules, quarter-is)
