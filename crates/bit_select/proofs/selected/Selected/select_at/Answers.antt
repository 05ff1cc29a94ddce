use Rattle.std.proofs.Common.{arith}
use Rattle.bit_select.proofs.Blocks.{select-some, select-there, select-order, block-none, place-past, place-done}
use Rattle.bit_select.proofs.selected.Selected.select_at.Goals as goal

pub overflow_sub-block : goal.overflow_sub-block
overflow_sub-block c = let it = c.args.self.now.0 in select-some _ _ _ it.indexed.entries it.blocks _ _ c.requires

pub offset_bounds-self-block : goal.offset_bounds-self-block
offset_bounds-self-block c = let it = c.args.self.now.0 in omega (arith, it.blocks, select-there _ _ _ it.indexed.entries it.blocks _ _ c.requires)

pub bounds-self-block : goal.bounds-self-block
bounds-self-block c = let it = c.args.self.now.0 in select-there _ _ _ it.indexed.entries it.blocks _ _ c.requires

pub overflow_sub-left : goal.overflow_sub-left
overflow_sub-left c = let it = c.args.self.now.0 in select-order _ _ _ it.indexed.entries it.blocks _ _ c.requires

pub overflow_mul-first : goal.overflow_mul-first
overflow_mul-first c = let it = c.args.self.now.0 in omega (arith, it.blocks, select-there _ _ _ it.indexed.entries it.blocks _ _ c.requires)

pub select_in_block-requires-clause-first_bound : goal.select_in_block-requires-clause-first_bound
select_in_block-requires-clause-first_bound c =
    let it = c.args.self.now.0 in omega (arith, it.blocks, it.small, select-there _ _ _ it.indexed.entries it.blocks _ _ c.requires)

pub returns-in_err-place : goal.returns-in_err-place
returns-in_err-place c =
    let it = c.args.self.now.0 in
    rw c.from_residual.ensures (block-none _ _ _ it.indexed.entries it.blocks _ _ c.requires c.in_err-place.ensures)

pub returns-then-self-place : goal.returns-then-self-place
returns-then-self-place c =
    let it = c.args.self.now.0 in
    place-past _ _ _ it.indexed.entries it.blocks _ _ c.requires _ c.in_ok-place.ensures (omega (arith, c.if-self-place.true))

pub returns : goal.returns
returns c =
    let it = c.args.self.now.0 in
    place-done _ _ _ it.indexed.entries it.blocks _ _ c.requires _ c.in_ok-place.ensures (omega (arith, c.if-self-place.false)) (omega (arith, it.small))
