use Rattle.std.proofs.Common.{rules}
use Rattle.index_write.proofs.Placing.{entry-merged}
use Rattle.index_write.proofs.add.write_union.Goals as goal

pub returns : goal.returns
returns c = search (rules, entry-merged)
