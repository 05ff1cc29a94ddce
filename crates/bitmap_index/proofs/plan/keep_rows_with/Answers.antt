use Rattle.std.proofs.Common.{rules}
use Rattle.std.proofs.lemmas.Result.{err_from_is_err_and}
use Rattle.bitmap_index.proofs.FilterCalls.{plan-refused, plan-done}
use Rattle.bitmap_index.proofs.plan.keep_rows_with.Goals as goal

pub returns-in_err-check_values : goal.returns-in_err-check_values
returns-in_err-check_values c =
    let p = err_from_is_err_and c.from_residual.result c.from_residual.ensures.1 in
    rw (p.1, p.2) (search (rules, plan-refused, c.new-plan.ensures.bytes, c.new-plan.ensures.steps, c.in_err-check_values.ensures))

pub returns : goal.returns
returns c = search (rules, plan-done, c.new-plan.ensures.bytes, c.new-plan.ensures.steps, c.in_ok-check_values.ensures)
