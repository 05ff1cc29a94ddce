use Rattle.std.proofs.Common.{◌*◌}
use Rattle.bitmap_build.proofs.Gathering.{Joining}
use Rattle.bitmap_build.proofs.join.join.Given as goal

abbrev pub invariant-loop-i : goal.invariant-loop-i
invariant-loop-i l = Joining l.initial.s l.s l.o.k l.o.a l.o.b (2 * l.i)
