use Rattle.std.proofs.Common.{map, length}
use Rattle.fields.proofs.Storing.{Storing}
use Rattle.fields.proofs.lookup.look_up_all.Given as goal

abbrev pub invariant-loop-i : goal.invariant-loop-i
invariant-loop-i g l = Storing (map (g.L.Lookup.number l.table) l.keys) (length l.keys) l.initial.out l.i l.out
