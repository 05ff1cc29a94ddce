use Rattle.std.proofs.Common.{rules}
use Rattle.fields.proofs.Numbers.{read-few, read-late}
use Rattle.fields.proofs.read.u64_at.Goals as goal

pub returns-then-bytes-ge8 : goal.returns-then-bytes-ge8
returns-then-bytes-ge8 c = search (rules, read-late 8)

pub returns : goal.returns
returns c = search (rules, read-few 8)
