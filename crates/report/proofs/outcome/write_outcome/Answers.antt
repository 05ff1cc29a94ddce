use Rattle.std.proofs.Common.{rules}
use Rattle.fields.proofs.Answers.{writes-full, writes-done}
use Rattle.report.proofs.outcome.write_outcome.Goals as goal

pub returns-then-out-len : goal.returns-then-out-len
returns-then-out-len c = search (rules, writes-full)

pub returns : goal.returns
returns c = search (rules, writes-done)
