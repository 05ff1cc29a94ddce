use Rattle.std.proofs.Common.{length}
use Rattle.report.proofs.AllLines.{Lines}
use Rattle.report.proofs.lines.read_steps.Given as goal

abbrev pub invariant-loop-rest : goal.invariant-loop-rest
invariant-loop-rest l = Lines l.text l.initial.steps l.rest l.len l.steps

abbrev pub decreases-loop-rest : goal.decreases-loop-rest
decreases-loop-rest l = length l.rest
