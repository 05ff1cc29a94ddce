use Rattle.std.proofs.Common.{rules}
use Rattle.std.proofs.lemmas.Result.{err_from_is_err_and}
use Rattle.bitmap_index.proofs.FilterCalls.{filter-long, filter-faulty, filter-wrong, filter-few, filter-pairs, filter-done}
use Rattle.bitmap_index.proofs.filters.filter.Goals as goal

pub returns-then-steps-gt-MAX_STEP_WORDS : goal.returns-then-steps-gt-MAX_STEP_WORDS
returns-then-steps-gt-MAX_STEP_WORDS c = search (rules, filter-long)

pub returns-in_err-index : goal.returns-in_err-index
returns-in_err-index c =
    let p = err_from_is_err_and c.from_residual.result c.from_residual.ensures.1 in
    rw (p.1, p.2) (search (rules, filter-faulty, c.in_err-index.ensures))

pub returns-in_err-check_steps : goal.returns-in_err-check_steps
returns-in_err-check_steps c =
    let p = err_from_is_err_and c.from_residual-in_err-check_steps.result c.from_residual-in_err-check_steps.ensures.1 in
    rw (p.1, p.2) (search (rules, filter-wrong, c.in_ok-index.ensures, c.in_err-check_steps.ensures))

pub keep_rows-requires-clause-few : goal.keep_rows-requires-clause-few
keep_rows-requires-clause-few c = search (rules, filter-few)

pub keep_rows-requires-clause-number : goal.keep_rows-requires-clause-number
keep_rows-requires-clause-number c = search (rules, filter-pairs, c.in_ok-index.ensures, c.in_ok-check_steps.ensures)

pub returns : goal.returns
returns c = search (rules, filter-done, c.in_ok-index.ensures, c.in_ok-check_steps.ensures)
