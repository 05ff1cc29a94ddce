use Rattle.std.proofs.Common.{rules}
use Rattle.merge.proofs.WordCopies.{part-copied}
use Rattle.merge.proofs.copy.copy_part.Goals as goal

pub returns : goal.returns
returns c = search (rules, part-copied)
