-- Building run lists from rows and from ranges (document 01, "Building lists"): "any order, repeats allowed, empty ranges (end <= start) dropped,
-- touching ones joined. The output needs twice as many words as items; words after the result up to there become zero."
use Rattle.std.specs.Prelude.{cond, ◌≡◌, refl, List, [], ◌∷◌, ℕ, suc, leb, length}
use Rattle.fields.specs.Refusal.{when, ◌then◌}
use Rattle.fields.specs.Answers.{none, short, Gives}
use Rattle.fields.specs.declared.outcome.Answer.{Answer}
use Rattle.fields.specs.Limits.{too_long, max_items, max_words}
use Rattle.run_list.specs.Runs.{odd}
use Rattle.run_list.specs.Rising.{elem}
use Rattle.boundary.specs.Merge.{merge, combine, either}

-- the run list of ranges, one after another joined into the list; an empty one has no rows
abbrev pub joined : List ℕ → List ℕ
joined [] = []
joined (s ∷ []) = []
joined (s ∷ e ∷ ws) = cond (leb e s) (joined ws) (combine either (s ∷ e ∷ []) (joined ws))

-- rows as ranges of one row
abbrev pub ranges : List ℕ → List ℕ
ranges [] = []
ranges (r ∷ rs) = r ∷ suc r ∷ ranges rs

-- "a row or range input 268,435,455 items"; "7 row 2^64 - 1 given to `from_rows`"
unfoldable pub rows_fault : List ℕ → ℕ
rows_fault rows = too_long max_items rows then when (elem none rows) 7

-- "A pair list is too long from one word past two per item"; "6 an odd number of words where pairs are due"
unfoldable pub ranges_fault : List ℕ → ℕ
ranges_fault ws = too_long max_words ws then when (odd ws) 6

-- a call with the input's refusal f that makes the run list of pairs: it needs, and clears, as many words as the pairs have
abbrev pub Built : ℕ → List ℕ → List ℕ → Answer → List ℕ → Type 0
Built f pairs before r out = Gives (f then short (length pairs) (length before)) (joined pairs) (length pairs) before r out

-- unordered, repeated and touching; empty ranges; refusals
examples : (joined (5 ∷ 7 ∷ 9 ∷ 2 ∷ 0 ∷ 5 ∷ ranges (9 ∷ 7 ∷ 9 ∷ [])) ≡ 0 ∷ 8 ∷ 9 ∷ 10 ∷ [])
    × (joined (3 ∷ 3 ∷ 9 ∷ 2 ∷ []) ≡ [])
    × (rows_fault (5 ∷ none ∷ []) ≡ 7)
    × (ranges_fault (5 ∷ []) ≡ 6)
unfolding combine merge rows_fault ranges_fault too_long odd when ◌then◌
examples = (refl, refl, refl, refl)
