use Rattle.std.proofs.Common.{rules, ◌∙◌}
use Rattle.std.proofs.lemmas.Result.{err_from_is_err_and}
use Rattle.neighbours.proofs.NeighbourCalls.{overlap-refused, overlap-empty, overlap-given}
use Rattle.neighbours.proofs.overlap.first_overlap.Goals as goal

pub returns-in_err-list : goal.returns-in_err-list
returns-in_err-list c =
    let p = err_from_is_err_and c.from_residual.result c.from_residual.ensures.1 in
    rw (p.1, p.2) (search (rules, overlap-refused, c.in_err-list.ensures))

pub returns-then-end-start : goal.returns-then-end-start
returns-then-end-start c = search (rules, overlap-empty, c.in_ok-list.ensures)

pub returns : goal.returns
returns c = search (rules, overlap-given, c.in_ok-list.ensures, c.new-searched.ensures.runs ∙ c.in_ok-list.ensures.1)
