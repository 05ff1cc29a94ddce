use Rattle.std.proofs.Common.{◌≡◌, ◌∙◌, length, arith}
use Rattle.packed_build.proofs.Scanning.{scanning-start, scanning-next, scanning-last}
use Rattle.packed_build.proofs.scan.Goals as goal

pub loop-i-init : goal.loop-i-init
loop-i-init c =
    let count = c.words-words.ensures.count in
    scanning-start _ _ _ (omega arith) (omega arith) (omega (arith, c.requires))

pub loop-i-preserved : goal.loop-i-preserved
loop-i-preserved c =
    let word = c.word-word.ensures ∙ c.words-words.ensures.each c.loop-i.i c.loop-i-test.true in
    scanning-next _ _ _ _ _ _ _ c.loop-i.invariant c.type_inv.bits _ word _ _ c.put_changes-k.ensures (omega (arith, c.loop-i-test.true))

pub returns : goal.returns
returns c =
    let at : c.loop-i.i ≡ length c.words-words.result.now = omega (arith, c.loop-i.invariant.place, c.loop-i-test.false) in
    let changes = rw (← at) at c.put_changes.ensures in
    let tail = rw (← at) at c.u64_at-tail.ensures in
    scanning-last _ _ _ _ _ _ _ c.loop-i.invariant c.type_inv.bits _ tail _ _ changes (omega (arith, c.loop-i-test.false))
