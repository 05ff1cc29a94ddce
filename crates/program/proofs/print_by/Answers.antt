use Rattle.std.proofs.Common.{rules}
use Rattle.program.proofs.PrintAll.{text-part, text-within, text-written}
use Rattle.program.proofs.print_by.Goals as goal

pub slice_bounds-write_all-end : goal.slice_bounds-write_all-end
slice_bounds-write_all-end g c = search (rules, text-within)

pub slice_bounds-write_all-end-2 : goal.slice_bounds-write_all-end-2
slice_bounds-write_all-end-2 g c = search (rules, text-part)

pub returns : goal.returns
returns g c = search (rules, text-written)
