use Rattle.std.proofs.Common.{rules}
use Rattle.std.proofs.lemmas.Result.{err_from_is_err_and}
use Rattle.bit_rank.proofs.BitCalls.{new-refused, new-full, new-done}
use Rattle.bit_rank.proofs.new.Goals as goal

pub returns-in_err-packed : goal.returns-in_err-packed
returns-in_err-packed c =
    let p = err_from_is_err_and c.from_residual.result c.from_residual.ensures.1 in
    rw (p.1, p.2) (search (rules, new-refused, c.in_err-packed.ensures))

pub returns-then-out-n : goal.returns-then-out-n
returns-then-out-n c = search (rules, new-full, c.in_ok-packed.ensures)

pub returns : goal.returns
returns c = search (rules, new-done, c.in_ok-packed.ensures)
