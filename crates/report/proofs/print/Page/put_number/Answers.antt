use Rattle.std.proofs.Common.{rules}
use Rattle.report.proofs.PrintLaws.{number-put}
use Rattle.report.proofs.print.Page.put_number.Goals as goal

pub returns : goal.returns
returns c = search (rules, number-put)
