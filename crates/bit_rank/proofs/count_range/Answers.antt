use Rattle.std.proofs.Common.{rules}
use Rattle.std.proofs.lemmas.Result.{err_from_is_err_and}
use Rattle.bit_rank.proofs.BitCalls.{range-refused, range-odd, range-other, range-full, range-done}
use Rattle.bit_rank.proofs.count_range.Goals as goal

pub returns-in_err-packed : goal.returns-in_err-packed
returns-in_err-packed c =
    let p = err_from_is_err_and c.from_residual.result c.from_residual.ensures.1 in
    rw (p.1, p.2) (search (rules, range-refused, c.in_err-packed.ensures))

pub returns-then-pairs-eq1 : goal.returns-then-pairs-eq1
returns-then-pairs-eq1 c = search (rules, range-odd, c.in_ok-packed.ensures)

pub returns-in_err-ranks : goal.returns-in_err-ranks
returns-in_err-ranks c =
    let p = err_from_is_err_and c.from_residual-in_err-ranks.result c.from_residual-in_err-ranks.ensures.1 in
    rw (p.1, p.2) (search (rules, range-other, c.in_err-ranks.ensures, c.in_ok-packed.ensures))

pub returns-then-out-n : goal.returns-then-out-n
returns-then-out-n c = search (rules, range-full, c.in_ok-packed.ensures, c.in_ok-ranks.ensures)

pub returns : goal.returns
returns c = search (rules, range-done, c.in_ok-packed.ensures, c.in_ok-ranks.ensures)
