use Rattle.std.proofs.Common.{rules}
use Rattle.packed.proofs.Counts.{are-bytes}
use Rattle.packed.proofs.Entries.{block-long, block-whole, block-word, block-past, block-done}
use Rattle.packed.proofs.count_block.Goals as goal

pub returns-then-bits-gt-MAX_BYTES : goal.returns-then-bits-gt-MAX_BYTES
returns-then-bits-gt-MAX_BYTES c = search (rules, block-long)

pub returns-then-i-words : goal.returns-then-i-words
returns-then-i-words c = search (rules, block-whole, are-bytes)

pub returns-then-size-eq1-2 : goal.returns-then-size-eq1-2
returns-then-size-eq1-2 c = search (rules, block-word, are-bytes)

pub returns-then-i-gt-MAX_WORDS : goal.returns-then-i-gt-MAX_WORDS
returns-then-i-gt-MAX_WORDS c = search (rules, block-past)

pub returns : goal.returns
returns c = search (rules, block-done)
