use Rattle.std.proofs.Common.{rules}
use Rattle.bitmap_build.proofs.Appending.{appended-grow, appended-new}
use Rattle.bitmap_build.proofs.join.append_range.Goals as goal

pub returns-then-touches : goal.returns-then-touches
returns-then-touches c = search (rules, appended-grow)

pub returns : goal.returns
returns c = search (rules, appended-new)
