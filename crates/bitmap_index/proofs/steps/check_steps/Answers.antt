use Rattle.std.proofs.Common.{rules}
use Rattle.bitmap_index.proofs.FilterCalls.{steps-odd, steps-kinds}
use Rattle.bitmap_index.proofs.steps.check_steps.Goals as goal

pub returns-then-steps-eq1 : goal.returns-then-steps-eq1
returns-then-steps-eq1 c = search (rules, steps-odd)

pub returns : goal.returns
returns c = search (rules, steps-kinds)
