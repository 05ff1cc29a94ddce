use Rattle.std.proofs.Common.{rules}
use Rattle.bitmap_build.proofs.Inputs.{ranges-long, ranges-odd, ranges-good}
use Rattle.bitmap_build.proofs.build.check_ranges.Goals as goal

pub returns-then-words-gt-MAX_WORDS : goal.returns-then-words-gt-MAX_WORDS
returns-then-words-gt-MAX_WORDS c = search (rules, ranges-long)

pub returns-then-words-eq1 : goal.returns-then-words-eq1
returns-then-words-eq1 c = search (rules, ranges-odd)

pub returns : goal.returns
returns c = search (rules, ranges-good)
