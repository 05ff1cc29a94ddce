use Rattle.std.proofs.Common.{rules}
use Rattle.fields.proofs.Numbers.{read_one}
use Rattle.fields.proofs.read.byte_at.Goals as goal

pub returns : goal.returns
returns c = search (rules, read_one)
