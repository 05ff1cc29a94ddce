use Rattle.std.proofs.Common.{rules}
use Rattle.bitmap_index.proofs.StepLaws.{pairs-number, values-number}
use Rattle.bitmap_index.proofs.steps.Steps.len.Goals as goal

pub returns-in-Pairs : goal.returns-in-Pairs
returns-in-Pairs c = search (rules, pairs-number, c.in-Pairs.is)

pub returns-in-Values : goal.returns-in-Values
returns-in-Values c = search (rules, values-number, c.in-Values.is)
