use Rattle.std.proofs.Common.{rules}
use Rattle.run_list.proofs.RowCalls.{summing-start, summing-order, summing-fits, summing-next}
use Rattle.run_list.proofs.list.RunList.count.Goals as goal

pub loop-start-init : goal.loop-start-init
loop-start-init c = search (rules, summing-start, c.args.self.now.accepted)

pub overflow_sub-sum : goal.overflow_sub-sum
overflow_sub-sum c = search (rules, summing-order, c.args.self.now.accepted)

pub overflow_add-sum : goal.overflow_add-sum
overflow_add-sum c = search (rules, summing-fits, c.args.self.now.accepted, c.args.self.now.small)

pub loop-start-preserved : goal.loop-start-preserved
loop-start-preserved c = search (rules, summing-next, c.args.self.now.accepted)
