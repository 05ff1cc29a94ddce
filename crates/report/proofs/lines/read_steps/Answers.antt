use Rattle.std.proofs.Common.{rules}
use Rattle.report.proofs.AllLines.{lines_start, text-some, text-none, lines-bad, lines-less, lines-room, lines_next, lines_end}
use Rattle.report.proofs.lines.read_steps.Goals as goal

pub loop-rest-init : goal.loop-rest-init
loop-rest-init c = search (rules, lines_start)

pub returns-in_err-kind : goal.returns-in_err-kind
returns-in_err-kind c = rw c.from_residual.ensures (search (rules, lines-bad, text-some, c.in_err-kind.ensures))

pub bounds-steps-len-in-loop-rest : goal.bounds-steps-len-in-loop-rest
bounds-steps-len-in-loop-rest c = search (rules, lines-room, text-some, c.in_ok-kind.ensures)

pub loop-rest-smaller : goal.loop-rest-smaller
loop-rest-smaller c = search (rules, lines-less, text-some, c.in_ok-kind.ensures)

pub loop-rest-preserved : goal.loop-rest-preserved
loop-rest-preserved c = search (rules, lines_next, text-some, c.in_ok-kind.ensures)

pub returns : goal.returns
returns c = search (rules, lines_end, text-none)
