use Rattle.std.proofs.Common.{rules}
use Rattle.packed.proofs.Counts.{from_past, last_within, from-fits, from-done, are-bytes}
use Rattle.packed.proofs.count_from.Goals as goal

pub returns-then-last-word : goal.returns-then-last-word
returns-then-last-word c = search (rules, from_past)

pub count_words-sum-requires-clause-to_in_bounds :
    goal.count_words-sum-requires-clause-to_in_bounds
count_words-sum-requires-clause-to_in_bounds c = search (rules, last_within)

pub overflow_add-result : goal.overflow_add-result
overflow_add-result c = search (rules, from-fits, are-bytes)

pub returns : goal.returns
returns c = search (rules, are-bytes, from-done)
