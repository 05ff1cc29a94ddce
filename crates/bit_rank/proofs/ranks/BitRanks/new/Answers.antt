use Rattle.std.proofs.Common.{rules, ◌∙◌, arith}
use Rattle.packed.proofs.Directories.{right-length, right-entries}
use Rattle.bit_rank.proofs.BitCalls.{right-found, other-seen}
use Rattle.bit_rank.proofs.ranks.BitRanks.new.Goals as goal

pub returns-then-not-is_directory-clause-judged :
    goal.returns-then-not-is_directory-clause-judged
returns-then-not-is_directory-clause-judged c = search (rules, other-seen, c.if-not-is_directory.ensures)

pub invariant_of-indexed : goal.invariant_of-indexed
invariant_of-indexed c = search (rules, right-entries, c.if-not-is_directory.ensures)

pub invariant_of-result : goal.invariant_of-result
invariant_of-result c = record { blocks = right-length _ _ _ _ c.if-not-is_directory.ensures ∙ c.blocks-n.ensures; small = omega (arith, c.ranges.end.fits) }

pub returns-clause-judged : goal.returns-clause-judged
returns-clause-judged c = search (rules, right-found, c.if-not-is_directory.ensures)
