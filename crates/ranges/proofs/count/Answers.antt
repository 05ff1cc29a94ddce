use Rattle.std.proofs.Common.{rules}
use Rattle.std.proofs.lemmas.Result.{err_from_is_err_and}
use Rattle.fields.proofs.Refusals.{refusal_some}
use Rattle.fields.proofs.Answers.{says-refused, says-accepted}
use Rattle.ranges.proofs.count.Goals as goal

pub returns-in_err-found : goal.returns-in_err-found
returns-in_err-found c =
    let p = err_from_is_err_and c.from_residual.result c.from_residual.ensures.1 in
    rw (p.1, p.2) (search (rules, says-refused, refusal_some, c.in_err-found.ensures))

pub returns : goal.returns
returns c = search (rules, says-accepted, c.in_ok-found.ensures)
