use Rattle.std.proofs.Common.{rules}
use Rattle.fields.proofs.Numbers.{read-add}
use Rattle.fields.proofs.read.half_at.Goals as goal

pub returns : goal.returns
returns c = search (rules, read-add 2 2)
