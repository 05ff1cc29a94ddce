use Rattle.std.proofs.Common.{rules}
use Rattle.std.proofs.lemmas.Result.{err_from_is_err_and}
use Rattle.index_merge.proofs.Calling.{merge-long, merge-first, merge-second, merge-full, merge-done}
use Rattle.index_merge.proofs.call.merge.Goals as goal

pub returns-then-second-gt-MAX_INDEX : goal.returns-then-second-gt-MAX_INDEX
returns-then-second-gt-MAX_INDEX c = search (rules, merge-long)

pub returns-in_err-first : goal.returns-in_err-first
returns-in_err-first c =
    let p = err_from_is_err_and c.from_residual.result c.from_residual.ensures.1 in
    rw (p.1, p.2) (search (rules, merge-first, c.in_err-first.ensures))

pub returns-in_err-second : goal.returns-in_err-second
returns-in_err-second c =
    let p = err_from_is_err_and c.from_residual-in_err-second.result c.from_residual-in_err-second.ensures.1 in
    rw (p.1, p.2) (search (rules, merge-second, c.in_ok-first.ensures, c.in_err-second.ensures))

pub returns-in_err-check_space : goal.returns-in_err-check_space
returns-in_err-check_space c =
    let p = err_from_is_err_and c.from_residual-in_err-check_space.result c.from_residual-in_err-check_space.ensures.1 in
    rw (p.1, p.2) (search (rules, merge-full, c.in_ok-first.ensures, c.in_ok-second.ensures, c.in_err-check_space.ensures))

pub returns : goal.returns
returns c = search (rules, merge-done, c.in_ok-first.ensures, c.in_ok-second.ensures, c.in_ok-check_space.ensures)
