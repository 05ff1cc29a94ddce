use Rattle.std.proofs.Common.{rules}
use Rattle.bitmap_build.proofs.Inputs.{rows_long, rows-found, rows_end}
use Rattle.bitmap_build.proofs.build.check_rows.Goals as goal

pub returns-then-rows-gt-MAX_ROWS : goal.returns-then-rows-gt-MAX_ROWS
returns-then-rows-gt-MAX_ROWS c = search (rules, rows_long)

pub returns-then-row : goal.returns-then-row
returns-then-row c = search (rules, rows-found)

pub returns : goal.returns
returns c = search (rules, rows_end)
