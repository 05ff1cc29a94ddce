use Rattle.std.proofs.Common.{rules, arith}
use Rattle.packed.proofs.Directories.{fill-start, fill-small, fill-fits, fill-next}
use Rattle.packed.proofs.directory.fill.Goals as goal

pub loop-i-init : goal.loop-i-init
loop-i-init g c = fill-start _ _ _ c.args.bits.short _ (omega (arith, g.met.E.Entry.numbers_length c.args.out.now))

pub overflow_add-before : goal.overflow_add-before
overflow_add-before g c = search (rules, fill-fits)

pub loop-i-preserved : goal.loop-i-preserved
loop-i-preserved g c =
    let m = c.loop-i.invariant in
    rw (c.from_number.ensures, g.met.E.Entry.numbers_set c.loop-i.out c.loop-i.i c.loop-i.before (fill-small _ _ _ _ _ _ _ m))
    (fill-next _ _ _ _ _ _ _ m _ c.count_block-before.ensures (omega (arith, c.min-i-end.ensures)))
