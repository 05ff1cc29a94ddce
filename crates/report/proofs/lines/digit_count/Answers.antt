use Rattle.std.proofs.Common.{rules, not, ◌∙◌}
use Rattle.std.proofs.lemmas.Iterator.{YieldsList-from_slice}
use Rattle.std.proofs.lemmas.Iterator.Search.{position_from_yields_List}
use Rattle.report.specs.Lines.{is_digit}
use Rattle.report.proofs.LineLaws.{digits-counted}
use Rattle.report.proofs.lines.digit_count.Goals as goal

pub returns : goal.returns
returns c =
    let place = position_from_yields_List (λ b. not (is_digit b)) _ _ c.position.result c.position.ensures.ran (YieldsList-from_slice c.args.text.now cc) (λ x b q k. search rules) in
    c.unwrap_or.ensures ∙ rw place (digits-counted c.args.text.now)
