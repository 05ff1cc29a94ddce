use Rattle.std.proofs.Common.{rules, ◌∙◌}
use Rattle.std.proofs.lemmas.Result.{err_from_is_err_and}
use Rattle.neighbours.proofs.NeighbourCalls.{nearest-refused, nearest-given}
use Rattle.neighbours.proofs.rows.neighbours.Goals as goal

pub returns-in_err-list : goal.returns-in_err-list
returns-in_err-list c =
    let p = err_from_is_err_and c.from_residual.result c.from_residual.ensures.1 in
    rw (p.1, p.2) (search (rules, nearest-refused, c.in_err-list.ensures))

pub returns : goal.returns
returns c = search (rules, nearest-given, c.in_ok-list.ensures, c.new-searched.ensures.runs ∙ c.in_ok-list.ensures.1)
