use Rattle.std.proofs.Common.{rules}
use Rattle.index_write.proofs.Writing.{writing_start, front-there, block-there, writing-room, writing-next}
use Rattle.index_write.proofs.write.copy_entries.Goals as goal

pub loop-init : goal.loop-init
loop-init c = search (rules, writing_start)

pub slice_bounds-head-end : goal.slice_bounds-head-end
slice_bounds-head-end c = search (rules, front-there)

pub slice_bounds-write_entry-end : goal.slice_bounds-write_entry-end
slice_bounds-write_entry-end c = search (rules, block-there)

pub write_entry-requires-clause-to_in_bounds : goal.write_entry-requires-clause-to_in_bounds
write_entry-requires-clause-to_in_bounds c = search (rules, writing-room)

pub loop-preserved : goal.loop-preserved
loop-preserved c = search (rules, writing-next)
