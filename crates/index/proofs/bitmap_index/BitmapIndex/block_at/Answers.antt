use Rattle.std.proofs.Common.{rules}
use Rattle.index.proofs.PlacedBlocks.{block-none, block-there}
use Rattle.index.proofs.bitmap_index.BitmapIndex.block_at.Goals as goal

pub returns-then-start-eq0 : goal.returns-then-start-eq0
returns-then-start-eq0 c = search (rules, block-none, c.args.self.now.accepted)

pub returns : goal.returns
returns c = search (rules, block-there)
