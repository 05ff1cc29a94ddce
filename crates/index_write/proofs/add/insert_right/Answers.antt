use Rattle.std.proofs.Common.{rules}
use Rattle.std.proofs.lemmas.Result.{err_from_is_err_and}
use Rattle.index_write.proofs.Inserting.{words-few, fitting, fitted-full, fitted-done}
use Rattle.index_write.proofs.add.insert_right.Goals as goal

pub grown-n-requires-clause-words_bound : goal.grown-n-requires-clause-words_bound
grown-n-requires-clause-words_bound c = search (rules, words-few, c.args.runs.accepted)

pub returns-in_err-check_room : goal.returns-in_err-check_room
returns-in_err-check_room c =
    let p = err_from_is_err_and c.from_residual.result c.from_residual.ensures.1 in
    rw (p.1, p.2) (search (rules, fitted-full, c.args.runs.accepted, c.in_err-check_room.ensures))

pub write_inserted-requires-clause-fitting : goal.write_inserted-requires-clause-fitting
write_inserted-requires-clause-fitting c = search (rules, fitting, c.args.runs.accepted, c.in_ok-check_room.ensures)

pub returns : goal.returns
returns c = search (rules, fitted-done, c.args.runs.accepted, c.in_ok-check_room.ensures)
