use Rattle.std.proofs.Common.{rules, arith}
use Rattle.packed.proofs.Counts.{are-bytes}
use Rattle.bit_select.proofs.Blocks.{pass-found, pass-next, whole-within, whole-read, next-place}
use Rattle.bit_select.proofs.selected.find_word.Goals as goal

pub returns-then-left-count : goal.returns-then-left-count
returns-then-left-count c =
    let read = whole-read _ _ c.words-words.ensures _ _ c.if-words-first.false c.loop-i-test.true _ c.word-digits.ensures in
    pass-found _ (are-bytes _ c.type_inv.bits) _ _ _ _ c.loop-i.invariant _ read _ c.count_word-count.ensures c.if-left-count.true

pub loop-i-preserved : goal.loop-i-preserved
loop-i-preserved c =
    let read = whole-read _ _ c.words-words.ensures _ _ c.if-words-first.false c.loop-i-test.true _ c.word-digits.ensures in
    let within = whole-within _ _ c.words-words.ensures _ _ c.if-words-first.false c.loop-i-test.true in
    next-place _ _ _ _ _ (pass-next _ (are-bytes _ c.type_inv.bits) _ _ _ _ c.loop-i.invariant _ read _ c.count_word-count.ensures (omega (arith, within)) (search (rules, c.if-left-count.false)))
