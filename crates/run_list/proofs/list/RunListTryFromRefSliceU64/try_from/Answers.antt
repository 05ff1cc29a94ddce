use Rattle.std.proofs.Common.{rules}
use Rattle.std.proofs.lemmas.Result.{err_from_is_err_and}
use Rattle.run_list.proofs.Judging.{fault-long, fault-own}
use Rattle.run_list.proofs.list.RunListTryFromRefSliceU64.try_from.Goals as goal

pub returns-then-words-gt-MAX_WORDS : goal.returns-then-words-gt-MAX_WORDS
returns-then-words-gt-MAX_WORDS c = search (rules, fault-long)

pub returns-in_err-check_own : goal.returns-in_err-check_own
returns-in_err-check_own c =
    let p = err_from_is_err_and c.from_residual.result c.from_residual.ensures.1 in
    rw (p.1, p.2) (search (rules, fault-own, c.in_err-check_own.ensures))

pub invariant_of-result : goal.invariant_of-result
invariant_of-result c = search (rules, fault-own, c.in_ok-check_own.ensures)
