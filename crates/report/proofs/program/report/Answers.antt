use Rattle.std.proofs.Common.{rules}
use Rattle.report.proofs.ProgramLaws.{report-written}
use Rattle.report.proofs.program.report.Goals as goal

pub returns : goal.returns
returns c = search (rules, report-written)
