use Rattle.std.proofs.Common.{rules}
use Rattle.run_list.proofs.Batches.{batches-next, batches-end}
use Rattle.run_list.proofs.batch.upper_bounds.Goals as goal

pub loop-from-preserved : goal.loop-from-preserved
loop-from-preserved c = search (rules, batches-next)

pub returns : goal.returns
returns c = search (rules, batches-end)
