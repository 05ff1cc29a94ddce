use Rattle.std.proofs.Common.{rules}
use Rattle.packed.proofs.Directories.{below-fits, below-is}
use Rattle.bit_rank.proofs.BitLaws.{rank-before, rank_is}
use Rattle.bit_rank.proofs.ranks.BitRanks.rank.Goals as goal

pub overflow_add-result : goal.overflow_add-result
overflow_add-result c = let it = c.args.self.now in search (rules, rank-before, below-fits, it.blocks, it.indexed.entries, it.indexed.bits.short)

pub returns : goal.returns
returns c = let it = c.args.self.now in search (rules, rank_is, rank-before, below-is, it.blocks, it.indexed.entries)
