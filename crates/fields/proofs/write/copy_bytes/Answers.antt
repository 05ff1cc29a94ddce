use Rattle.std.proofs.Common.{rules}
use Rattle.fields.proofs.Copying.{copying-end}
use Rattle.fields.proofs.write.copy_bytes.Goals as goal

pub returns : goal.returns
returns c = search (rules, copying-end)
