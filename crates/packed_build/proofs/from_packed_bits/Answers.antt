use Rattle.std.proofs.Common.{rules}
use Rattle.std.proofs.lemmas.Result.{err_from_is_err_and}
use Rattle.packed_build.proofs.PackedCalls.{packed-long, packed-full, packed-done}
use Rattle.packed_build.proofs.from_packed_bits.Goals as goal

pub returns-in_err-packed : goal.returns-in_err-packed
returns-in_err-packed c =
    let p = err_from_is_err_and c.from_residual.result c.from_residual.ensures.1 in
    rw (p.1, p.2) (search (rules, packed-long, c.in_err-packed.ensures))

pub returns-in_err-check_room : goal.returns-in_err-check_room
returns-in_err-check_room c =
    let p = err_from_is_err_and c.from_residual-in_err-check_room.result c.from_residual-in_err-check_room.ensures.1 in
    rw (p.1, p.2) (search (rules, packed-full, c.in_err-check_room.ensures, c.in_ok-packed.ensures))

pub returns : goal.returns
returns c = search (rules, packed-done, c.in_ok-packed.ensures, c.in_ok-check_room.ensures)
