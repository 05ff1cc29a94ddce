use Rattle.std.proofs.Common.{◌*◌}
use Rattle.bitmap_build.specs.Joining.{pairs}
use Rattle.bitmap_build.proofs.Gathering.{Gathering}
use Rattle.bitmap_build.proofs.join.gather.Given as goal

abbrev pub invariant-loop-i : goal.invariant-loop-i
invariant-loop-i g l =
    Gathering l.descending (pairs g.I.Item.start g.I.Item.end l.items) l.initial.out l.out l.o.k l.o.a l.o.b (2 * l.i)
