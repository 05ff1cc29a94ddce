use Rattle.std.proofs.Common.{rules}
use Rattle.run_list.proofs.batch.upper_bound.Goals as goal

pub returns : goal.returns
returns c = search (rules)
