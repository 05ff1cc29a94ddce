use Rattle.std.proofs.Common.{rules}
use Rattle.packed.proofs.Directories.{from-none}
use Rattle.packed.proofs.directory.count_from_start.Goals as goal

pub returns : goal.returns
returns c = search (rules, from-none)
