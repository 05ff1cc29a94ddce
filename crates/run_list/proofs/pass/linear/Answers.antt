use Rattle.std.proofs.Common.{rules}
use Rattle.run_list.proofs.Searching.{linear-next, linear-end}
use Rattle.run_list.proofs.pass.linear.Goals as goal

pub loop-preserved : goal.loop-preserved
loop-preserved c = search (rules, linear-next)

pub returns : goal.returns
returns c = search (rules, linear-end)
