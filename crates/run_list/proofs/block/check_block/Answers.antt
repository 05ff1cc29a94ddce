use Rattle.std.proofs.Common.{rules}
use Rattle.std.proofs.lemmas.Result.{err_from_is_err_and}
use Rattle.fields.proofs.Refusals.{refusal_some}
use Rattle.run_list.proofs.BlockCalls.{block-short, block-found, block-cut, block-whole}
use Rattle.run_list.proofs.block.check_block.Goals as goal

pub returns-then-block-lt4 : goal.returns-then-block-lt4
returns-then-block-lt4 c = search (rules, block-short)

pub returns-in_err-check_runs : goal.returns-in_err-check_runs
returns-in_err-check_runs c =
    let p = err_from_is_err_and c.from_residual.result c.from_residual.ensures.1 in
    rw (p.1, p.2) (search (rules, block-found, refusal_some, c.in_err-check_runs.ensures, c.block_words.ensures))

pub returns-then-block_runs-u32_at : goal.returns-then-block_runs-u32_at
returns-then-block_runs-u32_at c = search (rules, block-cut, c.in_ok-check_runs.ensures, c.block_words.ensures)

pub returns : goal.returns
returns c = search (rules, block-whole, c.in_ok-check_runs.ensures, c.block_words.ensures)
