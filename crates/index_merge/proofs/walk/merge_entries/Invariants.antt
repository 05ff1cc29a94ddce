use Rattle.std.proofs.Common.{◌+◌, length}
use Rattle.index.specs.Index.{entries}
use Rattle.index_merge.specs.Calls.{merged}
use Rattle.index_merge.specs.Inner.{listed}
use Rattle.index_merge.proofs.Walking.{Walking}
use Rattle.index_merge.proofs.walk.merge_entries.Given as goal

abbrev pub invariant-loop-value : goal.invariant-loop-value
invariant-loop-value l =
    Walking (merged (entries l.first-2.bytes.now) (entries l.second-2.bytes.now)) l.initial.out (merged (listed l.first) (listed l.second)) l.count l.to l.out

abbrev pub decreases-loop-value : goal.decreases-loop-value
decreases-loop-value l = length (listed l.first) + length (listed l.second)
