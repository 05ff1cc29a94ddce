use Rattle.std.proofs.Common.{arith, refl, ◌<◌}
use Rattle.select_table.proofs.Lines.{digit-fits, lines-next, lines-end}
use Rattle.select_table.proofs.text.put_text.Goals as goal

pub overflow_add-digit : goal.overflow_add-digit
overflow_add-digit c = let h : c.loop-i.i < 2048 = omega (arith, c.loop-i-test.true) in digit-fits _ _ c.loop-i.invariant h _ refl

pub loop-i-preserved : goal.loop-i-preserved
loop-i-preserved c = let h : c.loop-i.i < 2048 = omega (arith, c.loop-i-test.true) in lines-next _ _ c.loop-i.invariant h _ refl

pub returns : goal.returns
returns c = lines-end _ _ c.loop-i.invariant (omega (arith, c.loop-i.auto.i-end, c.loop-i-test.false))
