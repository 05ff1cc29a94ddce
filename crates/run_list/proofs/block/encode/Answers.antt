use Rattle.std.proofs.Common.{rules}
use Rattle.std.proofs.lemmas.Result.{err_from_is_err_and}
use Rattle.fields.proofs.Refusals.{refusal_some}
use Rattle.run_list.proofs.BlockCalls.{encode-fault, encode-limit, encode-room, encode-done}
use Rattle.run_list.proofs.block.encode.Goals as goal

pub returns-in_err-try_from : goal.returns-in_err-try_from
returns-in_err-try_from c =
    let p = err_from_is_err_and c.from_residual.result c.from_residual.ensures.1 in
    rw (p.1, p.2) (search (rules, encode-fault, refusal_some, c.in_err-try_from.ensures))

pub returns-then-out-n : goal.returns-then-out-n
returns-then-out-n c = search (rules, encode-room)

pub put_block-requires-clause-words_len_bound : goal.put_block-requires-clause-words_len_bound
put_block-requires-clause-words_len_bound c = search (rules, encode-limit)

pub returns : goal.returns
returns c = search (rules, encode-done)
