use Rattle.std.proofs.Common.{rules}
use Rattle.bitmap_index.proofs.StepLaws.{pair_in, pair-value, value_in, value_there}
use Rattle.bitmap_index.proofs.steps.Steps.value.Goals as goal

pub bounds-words-i : goal.bounds-words-i
bounds-words-i c = search (rules, pair_in, c.in-Pairs.is)

pub bounds-values-i : goal.bounds-values-i
bounds-values-i c = search (rules, value_in, c.in-Values.is)

pub returns-in-Pairs : goal.returns-in-Pairs
returns-in-Pairs c = search (rules, pair-value, c.in-Pairs.is)

pub returns-in-Values : goal.returns-in-Values
returns-in-Values c = search (rules, value_there, c.in-Values.is)
