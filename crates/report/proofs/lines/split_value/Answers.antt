use Rattle.std.proofs.Common.{rules}
use Rattle.report.proofs.LineCalls.{value-empty, value-many, value_in, value-other, value-great, value-done}
use Rattle.report.proofs.lines.split_value.Goals as goal
use Rattle.report.proofs.lines.split_value.Goals.{then-count-eq0-via-then-count-eq0, then-count-eq0-via-else-count-eq0+then-count-gt-MAX_DIGITS}

pub returns-then-count-eq0 : goal.returns-then-count-eq0
returns-then-count-eq0 c =
    elim c.then-count-eq0.branch [
      | then-count-eq0-via-then-count-eq0 w ↦ value-empty c.args.text.now c.digit_count-count.result c.digit_count-count.ensures w.if-count-eq0.true
      | then-count-eq0-via-else-count-eq0+then-count-gt-MAX_DIGITS w ↦ value-many c.args.text.now c.digit_count-count.result c.digit_count-count.ensures w.if-count-gt-MAX_DIGITS.true
    ]

pub split_at-requires : goal.split_at-requires
split_at-requires c = search (rules, value_in)

pub returns-in_err-rest : goal.returns-in_err-rest
returns-in_err-rest c = rw c.from_residual.ensures (search (rules, value-other, c.in_err-rest.ensures))

pub returns-in_err-number : goal.returns-in_err-number
returns-in_err-number c = rw c.from_residual-in_err-number.ensures (search (rules, value-great, c.in_ok-rest.ensures, c.in_err-number.ensures))

pub returns : goal.returns
returns c = search (rules, value-done, c.in_ok-rest.ensures, c.in_ok-number.ensures)
