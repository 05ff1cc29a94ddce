use Rattle.std.proofs.Common.{rules}
use Rattle.std.proofs.lemmas.Result.{err_from_is_err_and}
use Rattle.bit_rank.proofs.BitCalls.{rank-refused, rank-other, rank-done}
use Rattle.bit_rank.proofs.rank.Goals as goal

pub returns-in_err-packed : goal.returns-in_err-packed
returns-in_err-packed c =
    let p = err_from_is_err_and c.from_residual.result c.from_residual.ensures.1 in
    rw (p.1, p.2) (search (rules, rank-refused, c.in_err-packed.ensures))

pub returns-in_err-ranks : goal.returns-in_err-ranks
returns-in_err-ranks c =
    let p = err_from_is_err_and c.from_residual-in_err-ranks.result c.from_residual-in_err-ranks.ensures.1 in
    rw (p.1, p.2) (search (rules, rank-other, c.in_err-ranks.ensures, c.in_ok-packed.ensures))

pub returns : goal.returns
returns c = search (rules, rank-done, c.in_ok-packed.ensures, c.in_ok-ranks.ensures)
