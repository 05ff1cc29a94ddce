use Rattle.std.proofs.Common.{rules}
use Rattle.boundary.proofs.Advancing.{moved-left, moved-right, moved-both}
use Rattle.merge.proofs.merging.Merge.advance.Goals as goal

pub returns-then-leads : goal.returns-then-leads
returns-then-leads g c = search (rules, moved-left)

pub returns-then-leads-2 : goal.returns-then-leads-2
returns-then-leads-2 g c = search (rules, moved-right)

pub returns : goal.returns
returns g c = search (rules, moved-both)
