use Rattle.std.proofs.Common.{rules}
use Rattle.bit_rank.proofs.BitLaws.{ranges-start, ranges-next}
use Rattle.bit_rank.proofs.put_ranges.Goals as goal

pub loop-i-init : goal.loop-i-init
loop-i-init c = search (rules, ranges-start)

pub loop-i-preserved : goal.loop-i-preserved
loop-i-preserved c = search (rules, ranges-next)
