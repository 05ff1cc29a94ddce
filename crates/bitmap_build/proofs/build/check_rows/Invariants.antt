use Rattle.bitmap_build.proofs.Inputs.{Rows}
use Rattle.bitmap_build.proofs.build.check_rows.Given as goal

abbrev pub invariant-loop-row : goal.invariant-loop-row
invariant-loop-row l = Rows l.rows l.row-index
