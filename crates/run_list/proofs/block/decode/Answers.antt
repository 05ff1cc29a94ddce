use Rattle.std.proofs.Common.{rules}
use Rattle.std.proofs.lemmas.Result.{err_from_is_err_and}
use Rattle.fields.proofs.Refusals.{refusal_some}
use Rattle.run_list.proofs.BlockCalls.{decode-long, decode-fault, decode-room, decode-done}
use Rattle.run_list.proofs.block.decode.Goals as goal

pub returns-then-block-gt-MAX_BLOCK : goal.returns-then-block-gt-MAX_BLOCK
returns-then-block-gt-MAX_BLOCK c = search (rules, decode-long)

pub returns-in_err-check_block : goal.returns-in_err-check_block
returns-in_err-check_block c =
    let p = err_from_is_err_and c.from_residual.result c.from_residual.ensures.1 in
    rw (p.1, p.2) (search (rules, decode-fault, refusal_some, c.in_err-check_block.ensures))

pub returns-then-out-words : goal.returns-then-out-words
returns-then-out-words c = search (rules, decode-room, c.in_ok-check_block.ensures, c.block_words-words.ensures)

pub returns : goal.returns
returns c = search (rules, decode-done, c.in_ok-check_block.ensures, c.block_words-words.ensures)
