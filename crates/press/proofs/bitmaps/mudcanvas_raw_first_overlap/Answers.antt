use Rattle.std.proofs.Common.{rules}
use Rattle.neighbours.proofs.NeighbourCalls.{overlap-word}
use Rattle.press.proofs.bitmaps.mudcanvas_raw_first_overlap.Goals as goal

pub returns : goal.returns
returns c = search (rules, overlap-word)
