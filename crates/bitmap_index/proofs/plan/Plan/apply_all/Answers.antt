use Rattle.std.proofs.Common.{rules}
use Rattle.bitmap_index.proofs.FilterRun.{first-right, ran}
use Rattle.bitmap_index.proofs.plan.Plan.apply_all.Goals as goal

pub apply_pairs-requires : goal.apply_pairs-requires
apply_pairs-requires c = search (rules, first-right, c.args.self.now.index.accepted, c.args.self.now.index.small, c.args.self.now.few, c.args.self.now.number)

pub returns : goal.returns
returns c = search (rules, ran, c.args.self.now.index.accepted, c.args.self.now.index.small, c.args.self.now.few, c.args.self.now.number)
