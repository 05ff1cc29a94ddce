use Rattle.std.proofs.Common.{rules}
use Rattle.bitmap_index.proofs.NamedValues.{value-missing, value-present}
use Rattle.bitmap_index.proofs.plan.Plan.check_values.Goals as goal

pub returns-in-Pairs : goal.returns-in-Pairs
returns-in-Pairs c =
    search (rules, value-missing, c.args.self.now.index.accepted, c.args.self.now.placed, c.in-Pairs.is, c.contains.ensures.value)

pub returns-in_default : goal.returns-in_default
returns-in_default c =
    search (rules, value-present, c.args.self.now.index.accepted, c.args.self.now.placed, c.in-Pairs.is, c.contains.ensures.value)
