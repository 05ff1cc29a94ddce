use Rattle.std.proofs.Common.{◌≡◌}
use Rattle.report.proofs.PrintLaws.{Running}
use Rattle.report.proofs.print.Page.put_runs.Given as goal

abbrev pub invariant-loop-start : goal.invariant-loop-start
invariant-loop-start l = (l.self.bytes.ghost_name ≡ l.initial.self.bytes.ghost_name) × Running l.pairs l.initial.self.bytes.now l.initial.self.len l.start-index l.self.len l.self.bytes.now
