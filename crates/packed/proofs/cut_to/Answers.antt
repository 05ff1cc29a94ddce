use Rattle.std.proofs.Common.{rules}
use Rattle.packed.proofs.Counts.{cut-past, cut-within}
use Rattle.packed.proofs.cut_to.Goals as goal

pub returns-then-bits-place : goal.returns-then-bits-place
returns-then-bits-place c = search (rules, cut-past)

pub returns : goal.returns
returns c = search (rules, cut-within)
