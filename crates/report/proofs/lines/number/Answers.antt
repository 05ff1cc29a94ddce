use Rattle.std.proofs.Common.{rules}
use Rattle.report.proofs.LineLaws.{numbering-times_full, numbering-full, numbering-next, numbering-end, numbering-fits}
use Rattle.report.proofs.lines.number.Goals as goal

pub returns-in_err-checked_mul : goal.returns-in_err-checked_mul
returns-in_err-checked_mul c = rw c.from_residual.ensures (search (rules, numbering-times_full, c.in_err-checked_mul.ensures))

pub returns-in_err-number : goal.returns-in_err-number
returns-in_err-number c = rw c.from_residual-in_err-number.ensures (search (rules, numbering-full, c.in_ok-checked_mul.ensures, c.in_err-number.ensures))

pub loop-digit-preserved : goal.loop-digit-preserved
loop-digit-preserved c = search (rules, numbering-next, c.in_ok-checked_mul.ensures, c.in_ok-number.ensures)

pub returns : goal.returns
returns c = (search (rules, numbering-fits), search (rules, numbering-end))
