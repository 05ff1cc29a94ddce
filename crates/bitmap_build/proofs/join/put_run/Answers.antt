use Rattle.std.proofs.Common.{rules}
use Rattle.bitmap_build.proofs.Appending.{put-none, put_first, put_second, put_some}
use Rattle.bitmap_build.proofs.join.put_run.Goals as goal

pub bounds-s-k : goal.bounds-s-k
bounds-s-k c = search (rules, put_first)

pub bounds-s-k-then-a-b : goal.bounds-s-k-then-a-b
bounds-s-k-then-a-b c = search (rules, put_second)

pub returns-then-a-b : goal.returns-then-a-b
returns-then-a-b c = search (rules, put_some)

pub returns : goal.returns
returns c = search (rules, put-none)
