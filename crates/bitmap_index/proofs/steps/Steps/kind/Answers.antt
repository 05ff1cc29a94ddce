use Rattle.std.proofs.Common.{rules, arith}
use Rattle.bitmap_index.proofs.StepLaws.{pair_in, pair-kind, kind-first, kind-later}
use Rattle.bitmap_index.proofs.steps.Steps.kind.Goals as goal

pub bounds-words-i : goal.bounds-words-i
bounds-words-i c = let h = pair_in c.args.self c.args.i c.requires.within c.in-Pairs.words c.in-Pairs.is in omega (arith, h)

pub returns-in-Pairs : goal.returns-in-Pairs
returns-in-Pairs c = search (rules, pair-kind, c.in-Pairs.is)

pub returns-in-Values : goal.returns-in-Values
returns-in-Values c = search (rules, kind-first, c.in-Values.is)

pub returns-in-Values-2 : goal.returns-in-Values-2
returns-in-Values-2 c = search (rules, kind-later, c.in-Values-2.is)
