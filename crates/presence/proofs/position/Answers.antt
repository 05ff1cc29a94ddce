use Rattle.std.proofs.Common.{rules}
use Rattle.std.proofs.lemmas.Result.{err_from_is_err_and}
use Rattle.presence.proofs.PresentLaws.{positions-refused, positions-other, positions-done}
use Rattle.presence.proofs.position.Goals as goal

pub returns-in_err-packed : goal.returns-in_err-packed
returns-in_err-packed c =
    let p = err_from_is_err_and c.from_residual.result c.from_residual.ensures.1 in
    rw (p.1, p.2) (search (rules, positions-refused, c.in_err-packed.ensures))

pub returns-in_err-presence : goal.returns-in_err-presence
returns-in_err-presence c =
    let p = err_from_is_err_and c.from_residual-in_err-presence.result c.from_residual-in_err-presence.ensures.1 in
    rw (p.1, p.2) (search (rules, positions-other, c.in_err-presence.ensures, c.in_ok-packed.ensures))

pub returns : goal.returns
returns c = search (rules, positions-done, c.in_ok-packed.ensures, c.in_ok-presence.ensures)
