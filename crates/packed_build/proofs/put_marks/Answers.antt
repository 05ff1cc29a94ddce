use Rattle.std.proofs.Common.{rules}
use Rattle.packed_build.proofs.Marking.{marking-next, marking-end}
use Rattle.packed_build.proofs.put_marks.Goals as goal

pub loop-left-preserved : goal.loop-left-preserved
loop-left-preserved c = search (rules, marking-next)

pub returns : goal.returns
returns c = search (rules, marking-end)
