use Rattle.std.proofs.Common.{rules}
use Rattle.report.proofs.LineCalls.{line-none, line-bad, line-good}
use Rattle.report.proofs.lines.split_line.Goals as goal

pub returns-in_err-kind : goal.returns-in_err-kind
returns-in_err-kind c = rw c.from_residual.ensures (search (rules, line-none, c.in_err-kind.ensures))

pub returns-in_err-value : goal.returns-in_err-value
returns-in_err-value c = rw c.from_residual-in_err-value.ensures (search (rules, line-bad, c.in_ok-kind.ensures, c.in_err-value.ensures))

pub returns : goal.returns
returns c = search (rules, line-good, c.in_ok-kind.ensures, c.in_ok-value.ensures)
