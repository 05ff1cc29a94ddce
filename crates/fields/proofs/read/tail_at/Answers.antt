use Rattle.std.proofs.Common.{rules}
use Rattle.fields.proofs.Numbers.{summed-start, summed-next}
use Rattle.fields.proofs.read.tail_at.Goals as goal

pub loop-i-init : goal.loop-i-init
loop-i-init c = search (rules, summed-start)

pub loop-i-preserved : goal.loop-i-preserved
loop-i-preserved c = search (rules, summed-next)
