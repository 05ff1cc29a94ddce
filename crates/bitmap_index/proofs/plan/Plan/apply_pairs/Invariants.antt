use Rattle.std.proofs.Common.{◌-◌}
use Rattle.bitmap_index.specs.Inner.{steps_of}
use Rattle.bitmap_index.proofs.FilterRun.{Filtering}
use Rattle.bitmap_index.proofs.plan.Plan.apply_pairs.Given as goal

abbrev pub invariant-loop-i : goal.invariant-loop-i
invariant-loop-i l = Filtering l.self.index.bytes.now (steps_of l.self.steps) l.n l.initial.out l.initial.scratch l.i l.len l.out l.scratch

abbrev pub decreases-loop-i : goal.decreases-loop-i
decreases-loop-i l = l.n - l.i
