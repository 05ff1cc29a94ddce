use Rattle.std.proofs.Common.{rules}
use Rattle.inputs.proofs.Filling.{read-more}
use Rattle.inputs.proofs.read_full.Goals as goal

pub loop-done-preserved : goal.loop-done-preserved
loop-done-preserved g c = search (rules, read-more)
