use Rattle.std.proofs.Common.{rules}
use Rattle.std.proofs.lemmas.Result.{err_from_is_err_and}
use Rattle.bench_search.proofs.EachCalls.{each-refused, each-full, each-done}
use Rattle.bench_search.proofs.search.Goals as goal

pub returns-in_err-list : goal.returns-in_err-list
returns-in_err-list c =
    let p = err_from_is_err_and c.from_residual.result c.from_residual.ensures.1 in
    rw (p.1, p.2) (search (rules, each-refused, c.in_err-list.ensures))

pub returns-then-out-rows : goal.returns-then-out-rows
returns-then-out-rows c = search (rules, each-full, c.in_ok-list.ensures)

pub returns : goal.returns
returns c = search (rules, each-done, c.in_ok-list.ensures)
