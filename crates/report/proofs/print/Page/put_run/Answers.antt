use Rattle.std.proofs.Common.{rules}
use Rattle.report.proofs.PrintLaws.{run-room, run-put}
use Rattle.report.proofs.print.Page.put_run.Goals as goal

pub put_number_line-requires : goal.put_number_line-requires
put_number_line-requires c = search (rules, run-room)

pub returns : goal.returns
returns c = search (rules, run-put)
