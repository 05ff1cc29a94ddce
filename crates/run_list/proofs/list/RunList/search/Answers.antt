use Rattle.std.proofs.Common.{rules}
use Rattle.run_list.proofs.RowCalls.{accepted-place}
use Rattle.run_list.proofs.list.RunList.search.Goals as goal

pub returns : goal.returns
returns c = search (rules, accepted-place, c.args.self.now.accepted)
