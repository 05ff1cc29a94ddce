use Rattle.std.proofs.Common.{rules}
use Rattle.std.proofs.lemmas.Result.{err_from_is_err_and}
use Rattle.run_rank.proofs.RunCalls.{directory-refused, directory-full, directory-done}
use Rattle.run_rank.proofs.from_runs.Goals as goal

pub returns-in_err-list : goal.returns-in_err-list
returns-in_err-list c =
    let p = err_from_is_err_and c.from_residual.result c.from_residual.ensures.1 in
    rw (p.1, p.2) (search (rules, directory-refused, c.in_err-list.ensures))

pub returns-then-out-n : goal.returns-then-out-n
returns-then-out-n c = search (rules, directory-full, c.in_ok-list.ensures)

pub returns : goal.returns
returns c = search (rules, directory-done, c.in_ok-list.ensures)
