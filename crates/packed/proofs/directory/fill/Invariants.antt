use Rattle.std.proofs.Common.{◌*◌, min, length}
use Rattle.packed.proofs.Directories.{FillingBits}
use Rattle.packed.proofs.directory.fill.Given as goal

abbrev pub invariant-loop-i : goal.invariant-loop-i
invariant-loop-i g l = FillingBits (64 * l.size) (min l.n (length l.initial.out)) l.bits.bytes.now (g.E.Entry.numbers l.initial.out) l.i l.before (g.E.Entry.numbers l.out)
