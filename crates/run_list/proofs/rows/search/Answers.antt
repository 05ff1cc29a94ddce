use Rattle.std.proofs.Common.{rules}
use Rattle.std.proofs.lemmas.Result.{err_from_is_err_and}
use Rattle.run_list.proofs.PlaceCalls.{search-refused, search-accepted}
use Rattle.run_list.proofs.rows.search.Goals as goal

pub returns-in_err-runs : goal.returns-in_err-runs
returns-in_err-runs c =
    let p = err_from_is_err_and c.from_residual.result c.from_residual.ensures.1 in
    rw (p.1, p.2) (search (rules, search-refused, c.in_err-runs.ensures))

pub returns : goal.returns
returns c = search (rules, search-accepted, c.in_ok-runs.ensures)
