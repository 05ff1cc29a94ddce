use Rattle.std.proofs.Common.{rules, sym, ◌+◌, ◌*◌, arith}
use Rattle.std.proofs.lemmas.Result.{err_from_is_err_and}
use Rattle.fields.proofs.Refusals.{refusal_some}
use Rattle.fields.proofs.WordLists.{word_at}
use Rattle.run_list.proofs.Judging.{judged-next, judged-fault, judged-end}
use Rattle.run_list.proofs.runs.check_runs.Goals as goal

pub returns-in_err-check_run : goal.returns-in_err-check_run
returns-in_err-check_run g c =
    let p = err_from_is_err_and c.from_residual.result c.from_residual.ensures.1 in
    let start = word_at g.W.Word.word g.W.Word.words g.met.W.Word.words_index c.args.words.now (2 * c.loop-k.k) _ _ (omega arith) c.index-words-k-in-loop-k.is c.word.ensures in
    let end = word_at g.W.Word.word g.W.Word.words g.met.W.Word.words_index c.args.words.now (2 * c.loop-k.k + 1) _ _ (omega arith) c.index-words-k.is c.word-end.ensures in
    rw (p.1, p.2) (sym (search (rules, judged-fault, refusal_some, c.in_err-check_run.ensures, start, end)))

pub loop-k-preserved : goal.loop-k-preserved
loop-k-preserved g c =
    let start = word_at g.W.Word.word g.W.Word.words g.met.W.Word.words_index c.args.words.now (2 * c.loop-k.k) _ _ (omega arith) c.index-words-k-in-loop-k.is c.word.ensures in
    let end = word_at g.W.Word.word g.W.Word.words g.met.W.Word.words_index c.args.words.now (2 * c.loop-k.k + 1) _ _ (omega arith) c.index-words-k.is c.word-end.ensures in
    search (rules, judged-next, c.in_ok-check_run.ensures, start, end)

pub returns : goal.returns
returns g c = search (rules, judged-end)
