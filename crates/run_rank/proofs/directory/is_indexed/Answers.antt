use Rattle.std.proofs.Common.{rules}
use Rattle.run_rank.proofs.DirectoryCalls.{indexed-long, indexed-odd, indexed-length, indexing-start, indexing-other, indexing-fault, indexing-order, indexing-fits, indexing-next, indexing-end}
use Rattle.run_rank.proofs.directory.is_indexed.Goals as goal

pub returns-then-runs-gt-MAX_WORDS : goal.returns-then-runs-gt-MAX_WORDS
returns-then-runs-gt-MAX_WORDS c = search (rules, indexed-long)

pub returns-then-runs-eq1 : goal.returns-then-runs-eq1
returns-then-runs-eq1 c = search (rules, indexed-odd)

pub returns-then-directory-n : goal.returns-then-directory-n
returns-then-directory-n c = search (rules, indexed-length)

pub loop-i-init : goal.loop-i-init
loop-i-init c = search (rules, indexing-start)

pub returns-then-directory-i : goal.returns-then-directory-i
returns-then-directory-i c = search (rules, indexing-other)

pub returns-then-is_err : goal.returns-then-is_err
returns-then-is_err c = search (rules, indexing-fault, rw c.if-is_err.true at c.is_err.ensures.negation)

pub overflow_sub-before : goal.overflow_sub-before
overflow_sub-before c = search (rules, indexing-order, rw c.if-is_err.false at c.is_err.ensures.negation)

pub overflow_add-before : goal.overflow_add-before
overflow_add-before c = search (rules, indexing-fits, rw c.if-is_err.false at c.is_err.ensures.negation)

pub loop-i-preserved : goal.loop-i-preserved
loop-i-preserved c = search (rules, indexing-next, rw c.if-is_err.false at c.is_err.ensures.negation)

pub returns : goal.returns
returns c = search (rules, indexing-end)
