use Rattle.std.proofs.Common.{rules}
use Rattle.std.proofs.lemmas.Result.{err_from_is_err_and}
use Rattle.bitmap.proofs.SetCalls.{combined-refused, combined-full, combined-done}
use Rattle.bitmap.proofs.sets.combined.Goals as goal

pub returns-in_err-check_both : goal.returns-in_err-check_both
returns-in_err-check_both c =
    let p = err_from_is_err_and c.from_residual.result c.from_residual.ensures.1 in
    rw (p.1, p.2) (search (rules, combined-refused, c.in_err-check_both.ensures))

pub returns-in_err-check_room : goal.returns-in_err-check_room
returns-in_err-check_room c =
    let p = err_from_is_err_and c.from_residual-in_err-check_room.result c.from_residual-in_err-check_room.ensures.1 in
    rw (p.1, p.2) (search (rules, combined-full, c.in_ok-check_both.ensures, c.in_err-check_room.ensures))

pub returns : goal.returns
returns c = search (rules, combined-done, c.in_ok-check_both.ensures, c.in_ok-check_room.ensures)
