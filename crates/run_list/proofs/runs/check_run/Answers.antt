use Rattle.std.proofs.Common.{rules}
use Rattle.run_list.proofs.Judging.{run-empty, run-first, run-order, run-good}
use Rattle.run_list.proofs.runs.check_run.Goals as goal

pub returns-then-end-start : goal.returns-then-end-start
returns-then-end-start c = search (rules, run-empty)

pub returns-in-Some : goal.returns-in-Some
returns-in-Some c = search (rules, run-order)

pub returns-in_default : goal.returns-in_default
returns-in_default c = search (rules, run-good)

pub returns-in_default-2 : goal.returns-in_default-2
returns-in_default-2 c = search (rules, run-first)
