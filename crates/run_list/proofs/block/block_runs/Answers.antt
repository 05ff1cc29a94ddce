use Rattle.std.proofs.Common.{rules}
use Rattle.run_list.proofs.BlockWords.{runs_none, runs-whole}
use Rattle.run_list.proofs.block.block_runs.Goals as goal

pub returns-then-block-lt4 : goal.returns-then-block-lt4
returns-then-block-lt4 c = search (rules, runs_none)

pub returns : goal.returns
returns c = search (rules, runs-whole)
