use Rattle.std.proofs.Common.{rules}
use Rattle.std.proofs.lemmas.Result.{err_from_is_err_and}
use Rattle.bitmap_build.proofs.Calls.{built-refused, ranges-fit, ranges-full, ranges-done}
use Rattle.bitmap_build.proofs.build.from_ranges.Goals as goal

pub returns-in_err-check_ranges : goal.returns-in_err-check_ranges
returns-in_err-check_ranges c =
    let p = err_from_is_err_and c.from_residual.result c.from_residual.ensures.1 in
    rw (p.1, p.2) (search (rules, built-refused, c.in_err-check_ranges.ensures))

pub returns-then-out-need : goal.returns-then-out-need
returns-then-out-need c = search (rules, ranges-full, c.in_ok-check_ranges.ensures)

pub gather-m-requires-clause-ends_fit : goal.gather-m-requires-clause-ends_fit
gather-m-requires-clause-ends_fit c = search (rules, ranges-fit, c.in_ok-check_ranges.ensures)

pub returns : goal.returns
returns c = search (rules, ranges-done, c.in_ok-check_ranges.ensures)
