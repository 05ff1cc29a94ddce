use Rattle.std.proofs.Common.{rules}
use Rattle.std.proofs.lemmas.Result.{err_from_is_err_and}
use Rattle.bitmap_index.proofs.StepLaws.{kinds-found, kinds-next, kinds-end}
use Rattle.bitmap_index.proofs.steps.check_kinds.Goals as goal

pub returns-in_err-try_from : goal.returns-in_err-try_from
returns-in_err-try_from c =
    let p = err_from_is_err_and c.from_residual.result c.from_residual.ensures.1 in
    rw (p.1, p.2) (search (rules, kinds-found, c.in_err-try_from.ensures))

pub loop-kind-preserved : goal.loop-kind-preserved
loop-kind-preserved c = search (rules, kinds-next, c.in_ok-try_from.ensures)

pub returns : goal.returns
returns c = search (rules, kinds-end)
