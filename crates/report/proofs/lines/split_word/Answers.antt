use Rattle.std.proofs.Common.{rules}
use Rattle.report.proofs.LineLaws.{word-take, word-and, word-or, word_without, word-none}
use Rattle.report.proofs.lines.split_word.Goals as goal

pub returns-in-Some : goal.returns-in-Some
returns-in-Some c = search (rules, word-take, c.in-Some.ensures)

pub returns-in-Some-strip_prefix : goal.returns-in-Some-strip_prefix
returns-in-Some-strip_prefix c = search (rules, word-and, c.in_default.ensures, c.in-Some-strip_prefix.ensures)

pub returns-in-Some-strip_prefix-2 : goal.returns-in-Some-strip_prefix-2
returns-in-Some-strip_prefix-2 c = search (rules, word-or, c.in_default.ensures, c.in_default-strip_prefix.ensures, c.in-Some-strip_prefix-2.ensures)

pub returns-in_err-rest : goal.returns-in_err-rest
returns-in_err-rest c = rw c.from_residual.ensures (search (rules, word-none, c.in_default.ensures, c.in_default-strip_prefix.ensures, c.in_default-strip_prefix-2.ensures, c.in_err-rest.ensures))

pub returns : goal.returns
returns c = search (rules, word_without, c.in_default.ensures, c.in_default-strip_prefix.ensures, c.in_default-strip_prefix-2.ensures, c.in_ok-rest.ensures)
