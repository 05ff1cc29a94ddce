use Rattle.std.proofs.Common.{rules}
use Rattle.index.proofs.Entries.{head_value}
use Rattle.index.proofs.words.value_at.Goals as goal

pub returns : goal.returns
returns c = search (rules, head_value)
