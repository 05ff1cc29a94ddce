use Rattle.std.proofs.Common.{rules}
use Rattle.std.proofs.lemmas.Result.{err_from_is_err_and}
use Rattle.run_rank.proofs.RunCalls.{select-refused, select-done}
use Rattle.run_rank.proofs.select.Goals as goal

pub returns-in_err-new : goal.returns-in_err-new
returns-in_err-new c =
    let p = err_from_is_err_and c.from_residual.result c.from_residual.ensures.1 in
    rw (p.1, p.2) (search (rules, select-refused, c.in_err-new.ensures))

pub returns : goal.returns
returns c = search (rules, select-done, c.in_ok-new.ensures)
