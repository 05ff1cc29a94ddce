use Rattle.std.proofs.Common.{rules}
use Rattle.run_rank.proofs.BothCalls.{both-start, both-place, both-next, both-end}
use Rattle.run_rank.proofs.put_both.Goals as goal

pub loop-i-init : goal.loop-i-init
loop-i-init c = search (rules, both-start)

pub rank_at-requires : goal.rank_at-requires
rank_at-requires c = search (rules, both-place, c.args.index.runs.accepted, c.after-found.ensures)

pub loop-i-preserved : goal.loop-i-preserved
loop-i-preserved c = search (rules, both-next, c.args.index.runs.accepted, c.after-found.ensures, c.rank_at.ensures)

pub returns : goal.returns
returns c = search (rules, both-end)
