use Rattle.std.proofs.Common.{◌*◌}
use Rattle.packed.proofs.Directories.{CheckingBits}
use Rattle.packed.proofs.directory.is_directory.Given as goal

abbrev pub invariant-loop-i : goal.invariant-loop-i
invariant-loop-i g l = CheckingBits (64 * l.size) l.n l.bits.bytes.now (g.E.Entry.numbers l.directory) l.i l.before
