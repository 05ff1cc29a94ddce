use Rattle.std.proofs.Common.{rules}
use Rattle.report.proofs.ProgramLaws.{outcome-kept, outcome-refused}
use Rattle.report.proofs.print.Page.put_outcome.Goals as goal

pub returns-in-Ok : goal.returns-in-Ok
returns-in-Ok c = search (rules, outcome-kept)

pub returns-in-Err : goal.returns-in-Err
returns-in-Err c = search (rules, outcome-refused)
