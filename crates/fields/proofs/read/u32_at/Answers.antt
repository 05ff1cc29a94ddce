use Rattle.std.proofs.Common.{rules}
use Rattle.fields.proofs.Numbers.{read-few, few-small, read-late, late-small}
use Rattle.fields.proofs.read.u32_at.Goals as goal

pub overflow_cast-result-then-bytes-ge4 : goal.overflow_cast-result-then-bytes-ge4
overflow_cast-result-then-bytes-ge4 c = search (rules, late-small 4)

pub returns-then-bytes-ge4 : goal.returns-then-bytes-ge4
returns-then-bytes-ge4 c = search (rules, read-late 4)

pub overflow_cast-result-2 : goal.overflow_cast-result-2
overflow_cast-result-2 c = search (rules, few-small 4)

pub returns : goal.returns
returns c = search (rules, read-few 4)
