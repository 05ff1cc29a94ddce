use Rattle.std.proofs.Common.{map, length, ◌+◌, ◌-◌}
use Rattle.fields.specs.Bytes.{from_le}
use Rattle.boundary.proofs.Holding.{Holding}
use Rattle.merge.proofs.blocks.Union.unite_many.Given as goal

abbrev pub invariant-loop-s : goal.invariant-loop-s
invariant-loop-s l = Holding (map from_le l.self.left.now) (map from_le l.self.right.now) l.initial.s l.initial.out l.s l.out

abbrev pub decreases-loop-s : goal.decreases-loop-s
decreases-loop-s l = length (map from_le l.self.left.now) + length (map from_le l.self.right.now) - (l.s.at.i + l.s.at.j)
