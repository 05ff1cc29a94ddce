use Rattle.std.proofs.Common.{rules}
use Rattle.index_merge.proofs.Walking.{walking_start, walking-next, walked}
use Rattle.index_merge.proofs.walk.merge_entries.Goals as goal

pub loop-value-init : goal.loop-value-init
loop-value-init c = search (rules, walking_start, c.args.first.accepted, c.args.second.accepted)

pub loop-value-preserved : goal.loop-value-preserved
loop-value-preserved c = search (rules, walking-next)

pub returns : goal.returns
returns c = search (rules, walked)
