use Rattle.std.proofs.Common.{length, ◌-◌}
use Rattle.run_list.proofs.BlockCalls.{Putting}
use Rattle.run_list.proofs.block.put_block.Given as goal

abbrev pub invariant-loop-i : goal.invariant-loop-i
invariant-loop-i l = Putting l.words l.initial.out l.i l.out

abbrev pub decreases-loop-i : goal.decreases-loop-i
decreases-loop-i l = length l.words - l.i
