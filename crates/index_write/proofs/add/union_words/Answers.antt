use Rattle.std.proofs.Common.{rules}
use Rattle.index_write.proofs.Inserting.{union-counted}
use Rattle.index_write.proofs.add.union_words.Goals as goal

pub returns : goal.returns
returns c = search (rules, union-counted)
