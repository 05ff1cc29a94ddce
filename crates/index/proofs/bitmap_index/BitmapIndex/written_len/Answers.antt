use Rattle.std.proofs.Common.{rules}
use Rattle.index.proofs.Sizes.{counts-written, counts-short}
use Rattle.index.proofs.bitmap_index.BitmapIndex.written_len.Goals as goal

pub overflow_add-result : goal.overflow_add-result
overflow_add-result c = search (rules, counts-short, c.args.self.now.accepted, c.args.self.now.entry_count, c.args.self.now.run_count)

pub overflow_mul-result : goal.overflow_mul-result
overflow_mul-result c = search (rules, counts-short, c.args.self.now.accepted, c.args.self.now.entry_count, c.args.self.now.run_count)

pub overflow_add-result-2 : goal.overflow_add-result-2
overflow_add-result-2 c = search (rules, counts-short, c.args.self.now.accepted, c.args.self.now.entry_count, c.args.self.now.run_count)

pub returns-clause-len : goal.returns-clause-len
returns-clause-len c = search (rules, counts-written, c.args.self.now.accepted, c.args.self.now.entry_count, c.args.self.now.run_count)

pub returns-clause-short : goal.returns-clause-short
returns-clause-short c = search (rules, counts-short, c.args.self.now.accepted, c.args.self.now.entry_count, c.args.self.now.run_count)
