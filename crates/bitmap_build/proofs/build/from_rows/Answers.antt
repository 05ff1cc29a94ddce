use Rattle.std.proofs.Common.{rules}
use Rattle.std.proofs.lemmas.Result.{err_from_is_err_and}
use Rattle.bitmap_build.proofs.Calls.{built-refused, rows-fit, rows-full, rows-done}
use Rattle.bitmap_build.proofs.build.from_rows.Goals as goal

pub returns-in_err-check_rows : goal.returns-in_err-check_rows
returns-in_err-check_rows c =
    let p = err_from_is_err_and c.from_residual.result c.from_residual.ensures.1 in
    rw (p.1, p.2) (search (rules, built-refused, c.in_err-check_rows.ensures))

pub returns-then-out-need : goal.returns-then-out-need
returns-then-out-need c = search (rules, rows-full, c.in_ok-check_rows.ensures)

pub gather-m-requires-clause-ends_fit : goal.gather-m-requires-clause-ends_fit
gather-m-requires-clause-ends_fit c = search (rules, rows-fit, c.in_ok-check_rows.ensures)

pub returns : goal.returns
returns c = search (rules, rows-done, c.in_ok-check_rows.ensures)
