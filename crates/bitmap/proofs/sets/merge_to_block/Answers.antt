use Rattle.std.proofs.Common.{rules}
use Rattle.bitmap.proofs.BlockMerge.{block-stored}
use Rattle.bitmap.proofs.sets.merge_to_block.Goals as goal

pub returns : goal.returns
returns c = search (rules, block-stored)
