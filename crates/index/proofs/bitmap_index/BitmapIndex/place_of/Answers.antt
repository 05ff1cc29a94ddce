use Rattle.std.proofs.Common.{rules}
use Rattle.index.proofs.PlacedBlocks.{place-none, place-small, place-some}
use Rattle.index.proofs.bitmap_index.BitmapIndex.place_of.Goals as goal

pub overflow_cast-result : goal.overflow_cast-result
overflow_cast-result c = search (rules, place-small, c.args.self.now.accepted)

pub returns-then-place : goal.returns-then-place
returns-then-place c = search (rules, place-some)

pub returns : goal.returns
returns c = search (rules, place-none)
