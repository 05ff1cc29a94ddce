use Rattle.std.proofs.Common.{rules}
use Rattle.run_list.proofs.BlockCalls.{run_small, run_past, run-faulty, run-read}
use Rattle.run_list.proofs.block.run_at.Goals as goal

pub returns-then-block-lt20 : goal.returns-then-block-lt20
returns-then-block-lt20 c = search (rules, run_small)

pub returns-then-block-k : goal.returns-then-block-k
returns-then-block-k c = search (rules, run_past)

pub returns-in_err-check_run : goal.returns-in_err-check_run
returns-in_err-check_run c = search (rules, run-faulty)

pub returns : goal.returns
returns c = search (rules, run-read)
