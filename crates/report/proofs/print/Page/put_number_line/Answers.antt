use Rattle.std.proofs.Common.{rules}
use Rattle.report.proofs.PrintLaws.{line-room, line-put}
use Rattle.report.proofs.print.Page.put_number_line.Goals as goal

pub put_byte-requires : goal.put_byte-requires
put_byte-requires c = search (rules, line-room)

pub returns : goal.returns
returns c = search (rules, line-put)
