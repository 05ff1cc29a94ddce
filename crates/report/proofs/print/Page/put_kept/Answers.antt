use Rattle.std.proofs.Common.{rules}
use Rattle.report.proofs.PrintLaws.{kept-room, kept_put}
use Rattle.report.proofs.print.Page.put_kept.Goals as goal

pub put_runs-requires : goal.put_runs-requires
put_runs-requires c = search (rules, kept-room)

pub returns : goal.returns
returns c = search (rules, kept_put)
