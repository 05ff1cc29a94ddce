use Rattle.std.proofs.Common.{rules}
use Rattle.index.proofs.Entries.{head_length}
use Rattle.index.proofs.words.length_at.Goals as goal

pub returns : goal.returns
returns c = search (rules, head_length)
