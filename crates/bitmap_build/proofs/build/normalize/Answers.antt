use Rattle.std.proofs.Common.{rules}
use Rattle.std.proofs.lemmas.List.Sorted.{answers_always}
use lib.Dec.{ltb}
use Rattle.bitmap_build.proofs.Calls.{rising-answer, normal-rises, normal-sorted}
use Rattle.bitmap_build.proofs.build.normalize.Goals as goal

pub returns-then-is_sorted_by : goal.returns-then-is_sorted_by
returns-then-is_sorted_by c =
    normal-rises _ c.requires
    (rising-answer _ _ (c.is_sorted_by.ensures.cases ltb (answers_always _ _ _ (λ f a r f' k. search (rules, k)))) c.if-is_sorted_by.true)

pub returns : goal.returns
returns c = search (rules, normal-sorted)
