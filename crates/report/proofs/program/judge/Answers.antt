use Rattle.std.proofs.Common.{rules}
use Rattle.std.proofs.lemmas.Result.{err_from_is_err_and}
use Rattle.report.proofs.ProgramLaws.{judged-index, judged-text, judged-lines, judged-filter, kept-few, kept-accepted, kept-small, judged-kept}
use Rattle.report.proofs.program.judge.Goals as goal
use Rattle.report.proofs.program.judge.Goals.{then-index-gt-MAX_BYTES-via-then-index-gt-MAX_BYTES, then-index-gt-MAX_BYTES-via-else-index-gt-MAX_BYTES+then-text-gt-MAX_BYTES}

pub returns-then-index-gt-MAX_BYTES : goal.returns-then-index-gt-MAX_BYTES
returns-then-index-gt-MAX_BYTES c =
    elim c.then-index-gt-MAX_BYTES.branch [
      | then-index-gt-MAX_BYTES-via-then-index-gt-MAX_BYTES w ↦ judged-index c.args.index.now c.args.text.now w.if-index-gt-MAX_BYTES.true
      | then-index-gt-MAX_BYTES-via-else-index-gt-MAX_BYTES+then-text-gt-MAX_BYTES w ↦
          judged-text c.args.index.now c.args.text.now w.if-index-gt-MAX_BYTES.false w.if-text-gt-MAX_BYTES.true
    ]

pub returns-in_default : goal.returns-in_default
returns-in_default c = search (rules, judged-lines, c.in_default.ensures)

pub returns-in_err-len : goal.returns-in_err-len
returns-in_err-len c =
    let p = err_from_is_err_and c.from_residual.result c.from_residual.ensures.1 in
    rw (p.1, p.2) (search (rules, judged-filter, c.in-Some.ensures, c.in_err-len.ensures))

pub shared_ref_as_front-result : goal.shared_ref_as_front-result
shared_ref_as_front-result c = search (rules, kept-few, c.in-Some.ensures, c.in_ok-len.ensures)

pub invariant_of-result : goal.invariant_of-result
invariant_of-result c = search (rules, kept-accepted, kept-small, c.in-Some.ensures, c.in_ok-len.ensures)

pub returns : goal.returns
returns c = search (rules, judged-kept, c.in-Some.ensures, c.in_ok-len.ensures)
