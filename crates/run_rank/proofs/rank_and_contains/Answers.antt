use Rattle.std.proofs.Common.{rules}
use Rattle.std.proofs.lemmas.Result.{err_from_is_err_and}
use Rattle.run_rank.proofs.BothCalls.{both-refused, first-full, both-full, both-done}
use Rattle.run_rank.proofs.rank_and_contains.Goals as goal

pub returns-in_err-index : goal.returns-in_err-index
returns-in_err-index c =
    let p = err_from_is_err_and c.from_residual.result c.from_residual.ensures.1 in
    rw (p.1, p.2) (search (rules, both-refused, c.in_err-index.ensures))

pub returns-then-out-positions : goal.returns-then-out-positions
returns-then-out-positions c = search (rules, first-full, c.in_ok-index.ensures)

pub returns-then-flags-positions : goal.returns-then-flags-positions
returns-then-flags-positions c = search (rules, both-full, c.in_ok-index.ensures)

pub returns : goal.returns
returns c = search (rules, both-done, c.in_ok-index.ensures)
