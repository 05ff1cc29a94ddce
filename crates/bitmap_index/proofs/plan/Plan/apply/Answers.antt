use Rattle.std.proofs.Common.{rules}
use Rattle.bitmap_index.proofs.FilterRun.{step-done}
use Rattle.bitmap_index.proofs.plan.Plan.apply.Goals as goal

pub returns : goal.returns
returns c = search (rules, step-done, c.args.self.now.index.accepted, c.args.self.now.index.small, c.args.self.now.placed)
