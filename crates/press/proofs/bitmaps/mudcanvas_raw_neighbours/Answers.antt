use Rattle.std.proofs.Common.{sym}
use Rattle.neighbours.proofs.NeighbourCalls.{nearest-words}
use Rattle.press.proofs.bitmaps.mudcanvas_raw_neighbours.Goals as goal

pub returns : goal.returns
returns c = rw c.into.ensures (nearest-words _ _ _ c.neighbours.ensures)
