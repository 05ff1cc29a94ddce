use Rattle.std.proofs.Common.{rules, refl}
use Rattle.std.proofs.lemmas.Result.{err_from_is_err_and}
use Rattle.fields.proofs.Refusals.{refusal_some}
use Rattle.fields.proofs.Answers.{says-refused, says-accepted}
use Rattle.run_list.proofs.rows.count.Goals as goal

pub returns-in_err-runs : goal.returns-in_err-runs
returns-in_err-runs c =
    let p = err_from_is_err_and c.from_residual.result c.from_residual.ensures.1 in
    rw (p.1, p.2) (search (rules, says-refused, refusal_some, c.in_err-runs.ensures))

pub returns : goal.returns
returns c = let e = c.in_ok-runs.ensures in says-accepted _ _ _ 0 e.0 refl _ (rw e.1 at c.count.ensures)
