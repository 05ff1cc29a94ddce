use Rattle.run_list.specs.Search.{searched}
use Rattle.run_list.proofs.Lookups.{Answering}
use Rattle.run_list.proofs.lookup.look_up_sorted.Given as goal

abbrev pub invariant-loop-i : goal.invariant-loop-i
invariant-loop-i g l = Answering (λ key. searched key (g.L.SortedLookup.sorted l.table)) (g.L.SortedLookup.number l.table) l.keys l.fn.out l.i l.out
