use Rattle.std.proofs.Common.{rules}
use Rattle.run_rank.proofs.DirectoryCalls.{fills-start}
use Rattle.run_rank.proofs.directory.fill.Goals as goal

pub loop-i-init : goal.loop-i-init
loop-i-init c = search (rules, fills-start)
