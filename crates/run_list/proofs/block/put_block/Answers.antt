use Rattle.std.proofs.Common.{rules}
use Rattle.run_list.proofs.BlockCalls.{putting-next, putting-end}
use Rattle.run_list.proofs.block.put_block.Goals as goal

pub loop-i-preserved : goal.loop-i-preserved
loop-i-preserved c = search (rules, putting-next)

pub returns : goal.returns
returns c = search (rules, putting-end)
