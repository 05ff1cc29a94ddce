use Rattle.std.proofs.Common.{◌+◌, length}
use Rattle.packed_build.proofs.Scanning.{Scanning}
use Rattle.packed_build.proofs.scan.Given as goal

abbrev pub invariant-loop-i : goal.invariant-loop-i
invariant-loop-i l = Scanning l.bits l.initial.out (length l.words + 1) l.i l.carry l.k l.out
