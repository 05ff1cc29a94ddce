use Rattle.std.proofs.Common.{length, ◌/◌}
use Rattle.run_list.proofs.Judging.{Judged}
use Rattle.run_list.proofs.runs.check_runs.Given as goal

abbrev pub invariant-loop-k : goal.invariant-loop-k
invariant-loop-k g l = Judged (g.W.Word.words l.words) (length l.words / 2) l.k l.last
