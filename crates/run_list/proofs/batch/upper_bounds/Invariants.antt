use Rattle.std.proofs.Common.{◌-◌}
use Rattle.run_list.specs.Search.{searched}
use Rattle.run_list.proofs.Batches.{Batches}
use Rattle.run_list.proofs.batch.upper_bounds.Given as goal

abbrev pub invariant-loop-from : goal.invariant-loop-from
invariant-loop-from l = Batches (λ r. searched r l.words) l.rows l.initial.out l.from l.out

abbrev pub decreases-loop-from : goal.decreases-loop-from
decreases-loop-from l = l.n - l.from
