use Rattle.std.proofs.Common.{map, ◌+◌, ◌-◌}
use Rattle.fields.specs.Bytes.{from_le}
use Rattle.boundary.specs.Merge.{either}
use Rattle.boundary.specs.Stores.{set_bytes}
use Rattle.boundary.proofs.Advancing.{Merging}
use Rattle.merge.proofs.blocks.Union.write.Given as goal

abbrev pub invariant-loop-at : goal.invariant-loop-at
invariant-loop-at l = Merging set_bytes either (map from_le l.self.left.now) (map from_le l.self.right.now) l.initial.out (l.m + l.n) l.at l.out

abbrev pub decreases-loop-at : goal.decreases-loop-at
decreases-loop-at l = l.m + l.n - (l.at.i + l.at.j)
