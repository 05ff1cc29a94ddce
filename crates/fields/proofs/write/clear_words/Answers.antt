use Rattle.std.proofs.Common.{rules}
use Rattle.fields.proofs.Clearing.{cleared, not-cleared}
use Rattle.fields.proofs.write.clear_words.Goals as goal

pub returns-after-loop-word : goal.returns-after-loop-word
returns-after-loop-word c = search (rules, cleared, c.loop-word.invariant)

pub returns-else-from-end : goal.returns-else-from-end
returns-else-from-end c = search (rules, not-cleared)
