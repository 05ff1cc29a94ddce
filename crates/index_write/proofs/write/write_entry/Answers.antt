use Rattle.std.proofs.Common.{rules}
use Rattle.index_write.proofs.Writing.{entry-put}
use Rattle.index_write.proofs.write.write_entry.Goals as goal

pub returns : goal.returns
returns c = search (rules, entry-put)
