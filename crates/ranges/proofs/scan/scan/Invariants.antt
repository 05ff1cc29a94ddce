use Rattle.ranges.proofs.RangeLaws.{Passing}
use Rattle.ranges.proofs.scan.scan.Given as goal

abbrev pub invariant-loop-range : goal.invariant-loop-range
invariant-loop-range l = Passing l.ranges l.row l.range-index l.last l.found.rows l.found.listed
