use Rattle.std.proofs.Common.{arith}
use Rattle.byte_select.proofs.TableRule.{table-entry, table-past}
use Rattle.byte_select.proofs.select_in_byte.Goals as goal

pub returns-then-j-gt7 : goal.returns-then-j-gt7
returns-then-j-gt7 c = table-past c.args.byte c.args.j c.if-j-gt7.true

pub returns : goal.returns
returns c = rw c.from.ensures (table-entry c.args.byte c.args.j 0 (omega (arith, c.ranges.byte.fits)) (omega (arith, c.if-j-gt7.false)))
