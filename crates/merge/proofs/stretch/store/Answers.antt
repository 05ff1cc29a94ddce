use Rattle.std.proofs.Common.{rules}
use Rattle.boundary.proofs.Stores.{copied}
use Rattle.merge.proofs.stretch.store.Goals as goal

pub returns : goal.returns
returns g c = let l = g.met.C.Output.storing in search (rules, copied)
