use Rattle.std.proofs.Common.{rules, refl}
use Rattle.std.proofs.lemmas.Result.{err_from_is_err_and}
use Rattle.ranges.proofs.RangeLaws.{ranges-long, passing-start, passing-fault, passing-past, passing-some, passing-next, passing-end, passing-rows, passing-listed}
use Rattle.ranges.proofs.scan.scan.Goals as goal

pub returns-then-ranges-gt-MAX_RUNS-clause-judged :
    goal.returns-then-ranges-gt-MAX_RUNS-clause-judged
returns-then-ranges-gt-MAX_RUNS-clause-judged c = search (rules, ranges-long)

pub returns-in_err-check_run-clause-judged :
    goal.returns-in_err-check_run-clause-judged
returns-in_err-check_run-clause-judged c =
    let p = err_from_is_err_and c.from_residual.result c.from_residual.ensures.1 in
    rw (p.1, p.2) (passing-fault _ _ _ _ _ _ c.loop-range.invariant c.loop-range-test.true _ _ refl refl c.if-ranges-gt-MAX_RUNS.false _ c.in_err-check_run.ensures)

pub with-found-requires-clause-past : goal.with-found-requires-clause-past
with-found-requires-clause-past c = passing-past _ _ _ _ _ _ c.loop-range.invariant c.loop-range-test.true _ _ refl refl c.in_ok-check_run.ensures

pub with-found-requires-clause-some : goal.with-found-requires-clause-some
with-found-requires-clause-some c = passing-some _ _ _ _ _ _ c.loop-range.invariant c.loop-range-test.true _ _ refl refl c.in_ok-check_run.ensures

pub loop-range-preserved : goal.loop-range-preserved
loop-range-preserved c =
    passing-next _ _ _ _ _ _ c.loop-range.invariant c.loop-range-test.true _ _ refl refl c.in_ok-check_run.ensures _ c.with-found.ensures.rows _ c.with-found.ensures.listed

pub returns-clause-judged : goal.returns-clause-judged
returns-clause-judged c = search (rules, passing-end)
