use Rattle.std.proofs.Common.{rules}
use Rattle.run_list.proofs.Batches.{all-start, all-next, all-end}
use Rattle.run_list.proofs.batch.search_all.Goals as goal

pub loop-size-init : goal.loop-size-init
loop-size-init c = search (rules, all-start)

pub loop-size-preserved : goal.loop-size-preserved
loop-size-preserved c = search (rules, all-next)

pub returns : goal.returns
returns c = all-end _ _ _ _ c.loop-size.invariant c.loop-size-test.false _ c.linear_all.ensures
