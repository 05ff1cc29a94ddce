use Rattle.std.proofs.Common.{rules}
use Rattle.std.proofs.lemmas.Result.{err_from_is_err_and}
use Rattle.bitmap_index.proofs.FilterCalls.{values-long, values-faulty, values-number, values-pairs, values-done}
use Rattle.bitmap_index.proofs.filters.intersect_values.Goals as goal

pub returns-then-values-gt-MAX_STEPS : goal.returns-then-values-gt-MAX_STEPS
returns-then-values-gt-MAX_STEPS c = search (rules, values-long)

pub returns-in_err-index : goal.returns-in_err-index
returns-in_err-index c =
    let p = err_from_is_err_and c.from_residual.result c.from_residual.ensures.1 in
    rw (p.1, p.2) (search (rules, values-faulty, c.in_err-index.ensures))

pub keep_rows-requires-clause-few : goal.keep_rows-requires-clause-few
keep_rows-requires-clause-few c = search (rules, values-number)

pub keep_rows-requires-clause-number : goal.keep_rows-requires-clause-number
keep_rows-requires-clause-number c = search (rules, values-pairs)

pub returns : goal.returns
returns c = search (rules, values-done, c.in_ok-index.ensures)
