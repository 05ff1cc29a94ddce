use Rattle.std.proofs.Common.{rules}
use Rattle.index.proofs.Sizes.{counts-short}
use Rattle.index.proofs.bitmap_index.BitmapIndex.words.Goals as goal

pub overflow_mul-result : goal.overflow_mul-result
overflow_mul-result c = search (rules, counts-short, c.args.self.now.accepted, c.args.self.now.entry_count, c.args.self.now.run_count)
