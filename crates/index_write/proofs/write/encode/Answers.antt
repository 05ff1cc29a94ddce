use Rattle.std.proofs.Common.{rules}
use Rattle.std.proofs.lemmas.Result.{err_from_is_err_and}
use Rattle.fields.proofs.Answers.{judged-refused}
use Rattle.index_write.proofs.Writing.{encode-full, encode-same, encode-fit, encode-room, encode-done}
use Rattle.index_write.proofs.write.encode.Goals as goal

pub returns-in_err-read : goal.returns-in_err-read
returns-in_err-read c =
    let p = err_from_is_err_and c.from_residual.result c.from_residual.ensures.1 in
    rw (p.1, p.2) (search (rules, judged-refused, c.in_err-read.ensures))

pub returns-then-out-n : goal.returns-then-out-n
returns-then-out-n c = search (rules, encode-full, c.in_ok-read.ensures)

pub returns-then-n-index : goal.returns-then-n-index
returns-then-n-index c = search (rules, encode-same, c.in_ok-read.ensures)

pub copy_entries-requires-clause-entries_fit : goal.copy_entries-requires-clause-entries_fit
copy_entries-requires-clause-entries_fit c = search (rules, encode-fit, c.in_ok-read.ensures)

pub copy_entries-requires-clause-n_in_bounds : goal.copy_entries-requires-clause-n_in_bounds
copy_entries-requires-clause-n_in_bounds c = search (rules, encode-room, c.in_ok-read.ensures)

pub returns : goal.returns
returns c = search (rules, encode-done, c.in_ok-read.ensures)
