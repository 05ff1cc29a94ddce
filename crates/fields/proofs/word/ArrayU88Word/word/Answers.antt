use Rattle.std.proofs.Common.{rules}
use Rattle.fields.proofs.Words.{from_le-bytes}
use Rattle.fields.proofs.word.ArrayU88Word.word.Goals as goal

pub returns : goal.returns
returns c = search (rules, from_le-bytes)
