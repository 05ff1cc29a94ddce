use Rattle.std.proofs.Common.{◌/◌, sym, ◌∙◌}
use Rattle.packed.proofs.Directories.{below-fits, below-is}
use Rattle.packed.proofs.directory.IndexedBits.set_below.Goals as goal

pub overflow_add-result : goal.overflow_add-result
overflow_add-result g c =
    let it = c.args.self.now in
    let same = g.met.E.Entry.numbers_length it.directory.now in
    let here = c.number.ensures ∙ sym (g.met.E.Entry.numbers_index it.directory.now (c.args.place / 64 / g.row.SIZE) c.index-self-block.result c.if-block-self.true) in
    let entries = rw (← same) at it.entries in
    let there = rw (← same) at c.if-block-self.true in
    below-fits g.row.SIZE _ _ entries c.args.place _ there here _ c.count_from.ensures it.bits.short

pub returns-then-block-self : goal.returns-then-block-self
returns-then-block-self g c =
    let it = c.args.self.now in
    let same = g.met.E.Entry.numbers_length it.directory.now in
    let here = c.number.ensures ∙ sym (g.met.E.Entry.numbers_index it.directory.now (c.args.place / 64 / g.row.SIZE) c.index-self-block.result c.if-block-self.true) in
    let entries = rw (← same) at it.entries in
    let there = rw (← same) at c.if-block-self.true in
    below-is g.row.SIZE _ _ entries c.args.place _ there here _ c.count_from.ensures
