use Rattle.std.proofs.Common.{rules}
use Rattle.fields.proofs.Words.{to_le-bytes_4}
use Rattle.fields.proofs.write.put_u32.Goals as goal

pub returns : goal.returns
returns c = search (rules, to_le-bytes_4)
