use Rattle.std.proofs.Common.{rules}
use Rattle.bitmap_index.proofs.FilterCalls.{room-fits, kept_full, kept-full₂, kept-done}
use Rattle.bitmap_index.proofs.plan.Plan.keep_rows.Goals as goal

pub returns-then-out-room : goal.returns-then-out-room
returns-then-out-room c = search (rules, kept_full)

pub returns-then-scratch-room : goal.returns-then-scratch-room
returns-then-scratch-room c = search (rules, kept-full₂)

pub returns : goal.returns
returns c = search (rules, kept-done, c.args.self.now.index.accepted, c.args.self.now.index.small)

pub apply_all-len-requires-clause-index_in_bounds : goal.apply_all-len-requires-clause-index_in_bounds
apply_all-len-requires-clause-index_in_bounds c = search (rules, room-fits)

pub apply_all-len-requires-clause-index_in_bounds_2 : goal.apply_all-len-requires-clause-index_in_bounds_2
apply_all-len-requires-clause-index_in_bounds_2 c = search (rules, room-fits)
