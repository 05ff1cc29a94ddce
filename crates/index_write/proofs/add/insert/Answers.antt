use Rattle.std.proofs.Common.{rules}
use Rattle.std.proofs.lemmas.Result.{err_from_is_err_and}
use Rattle.index_write.proofs.Inserting.{insert-long, insert-faulty, insert-wrong, insert-done}
use Rattle.index_write.proofs.add.insert.Goals as goal

pub returns-then-runs-gt-MAX_WORDS : goal.returns-then-runs-gt-MAX_WORDS
returns-then-runs-gt-MAX_WORDS c = search (rules, insert-long)

pub returns-in_err-index : goal.returns-in_err-index
returns-in_err-index c =
    let p = err_from_is_err_and c.from_residual.result c.from_residual.ensures.1 in
    rw (p.1, p.2) (search (rules, insert-faulty, c.in_err-index.ensures))

pub returns-in_err-runs : goal.returns-in_err-runs
returns-in_err-runs c =
    let p = err_from_is_err_and c.from_residual-in_err-runs.result c.from_residual-in_err-runs.ensures.1 in
    rw (p.1, p.2) (search (rules, insert-wrong, c.in_ok-index.ensures, c.in_err-runs.ensures))

pub returns : goal.returns
returns c = search (rules, insert-done, c.in_ok-index.ensures, c.in_ok-runs.ensures)
