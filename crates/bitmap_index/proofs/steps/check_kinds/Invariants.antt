use Rattle.bitmap_index.proofs.StepLaws.{Kinds}
use Rattle.bitmap_index.proofs.steps.check_kinds.Given as goal

abbrev pub invariant-loop-kind : goal.invariant-loop-kind
invariant-loop-kind l = Kinds l.steps l.pairs l.kind-index
