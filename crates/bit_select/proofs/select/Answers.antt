use Rattle.std.proofs.Common.{rules}
use Rattle.std.proofs.lemmas.Result.{err_from_is_err_and}
use Rattle.bit_select.proofs.SelectCalls.{select-refused, select-other, select-done}
use Rattle.bit_select.proofs.select.Goals as goal

pub returns-in_err-packed : goal.returns-in_err-packed
returns-in_err-packed c =
    let p = err_from_is_err_and c.from_residual.result c.from_residual.ensures.1 in
    rw (p.1, p.2) (search (rules, select-refused, c.in_err-packed.ensures))

pub returns-in_err-new : goal.returns-in_err-new
returns-in_err-new c =
    let p = err_from_is_err_and c.from_residual-in_err-new.result c.from_residual-in_err-new.ensures.1 in
    rw (p.1, p.2) (search (rules, select-other, c.in_err-new.ensures, c.in_ok-packed.ensures))

pub returns : goal.returns
returns c = search (rules, select-done, c.in_ok-packed.ensures, c.in_ok-new.ensures)
