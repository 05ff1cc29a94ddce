use Rattle.std.proofs.Common.{rules}
use Rattle.report.proofs.PrintLaws.{running-next, running-end}
use Rattle.report.proofs.print.Page.put_runs.Goals as goal

pub loop-start-preserved : goal.loop-start-preserved
loop-start-preserved c = search (rules, running-next)

pub returns : goal.returns
returns c = search (rules, running-end)
