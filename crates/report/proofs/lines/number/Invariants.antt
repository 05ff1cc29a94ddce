use Rattle.report.proofs.LineLaws.{Numbering}
use Rattle.report.proofs.lines.number.Given as goal

abbrev pub invariant-loop-digit : goal.invariant-loop-digit
invariant-loop-digit l = Numbering l.digits l.number l.digit-index
