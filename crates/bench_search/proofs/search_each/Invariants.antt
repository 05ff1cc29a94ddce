use Rattle.std.proofs.Common.{length, map}
use Rattle.fields.proofs.Storing.{Storing}
use Rattle.bench_search.specs.BenchSearch.{place_word}
use Rattle.bench_search.proofs.search_each.Given as goal

abbrev pub invariant-loop-i : goal.invariant-loop-i
invariant-loop-i l = Storing (map (place_word l.list.words.now) l.rows) (length l.rows) l.initial.out l.i l.out
