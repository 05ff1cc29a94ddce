use Rattle.std.proofs.Common.{rules, sym, arith}
use Rattle.std.proofs.lemmas.Result.{err_from_is_err_and}
use Rattle.run_rank.proofs.DirectoryLaws.{accepted-runs, accepted-directory}
use Rattle.run_rank.proofs.RunCalls.{index-refused, index-found, index-other}
use Rattle.run_rank.proofs.index.RunIndex.new.Goals as goal

pub invariant_of-result : goal.invariant_of-result
invariant_of-result c =
    record {
      accepted = accepted-runs _ _ (index-found _ _ _ c.is_indexed.ensures c.if-is_indexed.true);
      small = λ i. omega (arith, c.type_inv.runs i);
    }

pub invariant_of-result-then-is_indexed : goal.invariant_of-result-then-is_indexed
invariant_of-result-then-is_indexed c = record { entries = accepted-directory _ _ (index-found _ _ _ c.is_indexed.ensures c.if-is_indexed.true) }

pub returns-then-is_indexed-clause-judged : goal.returns-then-is_indexed-clause-judged
returns-then-is_indexed-clause-judged c = sym (index-found _ _ _ c.is_indexed.ensures c.if-is_indexed.true)

pub returns-in_err-try_from-clause-judged : goal.returns-in_err-try_from-clause-judged
returns-in_err-try_from-clause-judged c =
    let p = err_from_is_err_and c.from_residual.result c.from_residual.ensures.1 in
    rw (p.1, p.2) (search (rules, index-refused, c.in_err-try_from.ensures))

pub returns-clause-judged : goal.returns-clause-judged
returns-clause-judged c = search (rules, index-other, c.in_ok-try_from.ensures)
