use Rattle.std.proofs.Common.{rules}
use Rattle.index.proofs.Walk.{passing-start, passing-next, walked_start, entry-fits, entry_next, read-long, read-short, head-stop, cut-stop, run-stop, last-stop, read-right}
use Rattle.run_list.proofs.BlockWords.{runs-few}
use Rattle.index.proofs.Entries.{head-whole}
use Rattle.index.proofs.read.decode.Goals as goal

pub returns-then-index-gt-MAX_INDEX : goal.returns-then-index-gt-MAX_INDEX
returns-then-index-gt-MAX_INDEX c = search (rules, read-long)

pub returns-then-index-lt4 : goal.returns-then-index-lt4
returns-then-index-lt4 c = search (rules, read-short)

pub loop-init : goal.loop-init
loop-init c = search (rules, walked_start)

pub length_at-requires : goal.length_at-requires
length_at-requires c = search (rules, head-whole, c.in_default.ensures)

pub slice_bounds-block-end : goal.slice_bounds-block-end
slice_bounds-block-end c = search (rules, entry-fits, c.in_default.ensures)

pub loop-j-init : goal.loop-j-init
loop-j-init c = search (rules, passing-start)

pub overflow_mul-j : goal.overflow_mul-j
overflow_mul-j c = search (rules, runs-few)

pub overflow_add-j : goal.overflow_add-j
overflow_add-j c = search (rules, runs-few)

pub overflow_mul-j-in-loop-j : goal.overflow_mul-j-in-loop-j
overflow_mul-j-in-loop-j c = search (rules, runs-few)

pub loop-j-preserved : goal.loop-j-preserved
loop-j-preserved c = search (rules, passing-next, c.in_default-check_run.ensures)

pub overflow_add-runs : goal.overflow_add-runs
overflow_add-runs c = search (rules, runs-few)

pub loop-preserved : goal.loop-preserved
loop-preserved c = search (rules, entry_next, c.in_default.ensures)

pub returns-in-Err : goal.returns-in-Err
returns-in-Err c = search (rules, head-stop, c.in-Err.ensures)

pub returns-then-block-lt4 : goal.returns-then-block-lt4
returns-then-block-lt4 c = search (rules, cut-stop, c.in_default.ensures)

pub returns-in-Err-check_run : goal.returns-in-Err-check_run
returns-in-Err-check_run c = search (rules, run-stop, c.in_default.ensures, c.in-Err-check_run.ensures)

pub returns-then-n-u32_at : goal.returns-then-n-u32_at
returns-then-n-u32_at c = search (rules, last-stop, c.in_default.ensures)

pub returns-after-loop : goal.returns-after-loop
returns-after-loop c = search (rules, read-right)
