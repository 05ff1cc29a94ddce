use Rattle.std.proofs.Common.{rules}
use Rattle.bitmap_build.proofs.Calls.{finish-done}
use Rattle.bitmap_build.proofs.build.finish.Goals as goal

pub returns : goal.returns
returns c = search (rules, finish-done)
