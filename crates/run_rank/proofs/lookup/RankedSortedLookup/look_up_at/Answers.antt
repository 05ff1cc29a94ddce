use Rattle.std.proofs.Common.{rules}
use Rattle.run_list.proofs.RowCalls.{accepted-place}
use Rattle.run_rank.proofs.lookup.RankedSortedLookup.look_up_at.Goals as goal

pub rank_at-requires : goal.rank_at-requires
rank_at-requires c = search (rules, accepted-place, c.args.self.now.0.runs.accepted)
