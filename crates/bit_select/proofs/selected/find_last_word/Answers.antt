use Rattle.std.proofs.Common.{rules}
use Rattle.packed.proofs.Counts.{are-bytes}
use Rattle.bit_select.proofs.Blocks.{pass-start, pass-found, pass-next, pass-end}
use Rattle.bit_select.proofs.selected.find_last_word.Goals as goal

pub loop-word-init : goal.loop-word-init
loop-word-init c = pass-start _ _ _

pub returns-then-left-count : goal.returns-then-left-count
returns-then-left-count c =
    pass-found _ (are-bytes _ c.type_inv.bits) _ _ _ _ c.loop-word.invariant _ c.u64_at-digits.ensures _ c.count_word-count.ensures c.if-left-count.true

pub loop-word-preserved : goal.loop-word-preserved
loop-word-preserved c =
    pass-next _ (are-bytes _ c.type_inv.bits) _ _ _ _ c.loop-word.invariant _ c.u64_at-digits.ensures _ c.count_word-count.ensures c.loop-word-test.true (search (rules, c.if-left-count.false))

pub returns : goal.returns
returns c = search (rules, pass-end)
