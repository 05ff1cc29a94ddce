use Rattle.std.proofs.Common.{rules}
use Rattle.std.proofs.lemmas.Result.{err_from_is_err_and}
use Rattle.fields.proofs.Refusals.{refusal_some}
use Rattle.run_list.proofs.Judging.{faults-left, faults-right, faults-own, faults-last}
use Rattle.run_list.proofs.runs.check_both.Goals as goal

pub returns-then-left-gt-MAX_WORDS : goal.returns-then-left-gt-MAX_WORDS
returns-then-left-gt-MAX_WORDS c = search (rules, faults-left)

pub returns-then-right-gt-MAX_WORDS : goal.returns-then-right-gt-MAX_WORDS
returns-then-right-gt-MAX_WORDS c = search (rules, faults-right)

pub returns-in_err-check_own : goal.returns-in_err-check_own
returns-in_err-check_own c =
    let p = err_from_is_err_and c.from_residual.result c.from_residual.ensures.1 in
    rw (p.1, p.2) (search (rules, faults-own, refusal_some, c.in_err-check_own.ensures))

pub returns : goal.returns
returns c = search (rules, faults-last, c.in_ok-check_own.ensures)
