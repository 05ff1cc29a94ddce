-- Neighbours of a row, and the first run that shares a row with a range (REQUESTS.md, job 2).
use Rattle.std.specs.Prelude.{◌≡◌, refl, Bool, cond, List, [], ◌∷◌, ℕ, suc, ◌-◌, min, max, leb, ltb, Option, None, Result, Ok, Err}
use Rattle.std.specs.Result.{result_unwrap_or}
use Rattle.fields.specs.Refusal.{when, ◌then◌, refusal_number, refusal_of}
use Rattle.fields.specs.Answers.{none, word_of, option_of, Says}
use Rattle.fields.specs.declared.outcome.Refusal.{Refusal}
use Rattle.fields.specs.declared.outcome.Number.{Number}
use Rattle.run_list.specs.Runs.{fault}
use Rattle.neighbours.specs.declared.Nearest.{Nearest}
use Rattle.neighbours.specs.declared.NearestAnswer.{NearestAnswer}

-- "the nearest listed row at or above it": of the first run that ends above it the row itself, or the run's start where that is greater. "None is 2^64 - 1"
abbrev pub row_above : List ℕ → ℕ → ℕ
row_above [] r = none
row_above (s ∷ []) r = none
row_above (s ∷ e ∷ ws) r = cond (ltb r e) (max s r) (row_above ws r)

-- "and the nearest at or below it": of the last run that starts at or below it the row itself, or the run's last row where that is less; found is what the
-- runs before gave
abbrev pub row_below_from : ℕ → List ℕ → ℕ → ℕ
row_below_from found [] r = found
row_below_from found (s ∷ []) r = found
row_below_from found (s ∷ e ∷ ws) r = row_below_from (cond (leb s r) (min (e - 1) r) found) ws r

abbrev pub row_below : List ℕ → ℕ → ℕ
row_below ws r = row_below_from none ws r

-- the run s to e "shares a row with a given range", a to b: the rows of both are those from the greater start to the lesser end
abbrev pub shares : ℕ → ℕ → ℕ → ℕ → Bool
shares s e a b = ltb (max s a) (min e b)

-- "the first run that shares a row with a given range, by its number in the list", the first of these runs having the number k
abbrev pub first_shared_from : ℕ → List ℕ → ℕ → ℕ → ℕ
first_shared_from k [] a b = none
first_shared_from k (s ∷ []) a b = none
first_shared_from k (s ∷ e ∷ ws) a b = cond (shares s e a b) k (first_shared_from (suc k) ws a b)

-- "counted from 0"
abbrev pub first_shared : List ℕ → ℕ → ℕ → ℕ
first_shared ws a b = first_shared_from 0 ws a b

-- ---- the calls

-- the row above that a call gives, if any; the row below; both as words
abbrev pub above_of : Result Nearest Refusal → Option ℕ
above_of (Ok n) = n.above
above_of (Err e) = None

abbrev pub below_of : Result Nearest Refusal → Option ℕ
below_of (Ok n) = n.below
below_of (Err e) = None

abbrev pub nearest_of : Result Nearest Refusal → NearestAnswer
nearest_of (Ok n) = record { refusal = 0; above = word_of n.above; below = word_of n.below }
nearest_of (Err e) = record { refusal = refusal_number e; above = 0; below = 0 }

-- `neighbours`
pub record NearestOptions (runs : List ℕ) (row : ℕ) (r : Result Nearest Refusal) : Type 0 where
  pub above : Says (fault runs) (option_of (row_above runs row)) None (refusal_of r) (above_of r)
  pub below : Says (fault runs) (option_of (row_below runs row)) None (refusal_of r) (below_of r)

-- its answer with words: "A refused call .. gives 0 for each answered number"
pub record NearestRows (runs : List ℕ) (row : ℕ) (r : NearestAnswer) : Type 0 where
  pub above : Says (fault runs) (row_above runs row) 0 r.refusal r.above
  pub below : Says (fault runs) (row_below runs row) 0 r.refusal r.below

-- the list's faults, then "A range whose end is not above its start is refused 3"
unfoldable pub overlap_fault : List ℕ → ℕ → ℕ → ℕ
overlap_fault runs start end = fault runs then when (leb end start) 3

-- `first_overlap`, and its answer with the word
abbrev pub OverlapOption : List ℕ → ℕ → ℕ → Result (Option ℕ) Refusal → Type 0
OverlapOption runs start end r = Says (overlap_fault runs start end) (option_of (first_shared runs start end)) None (refusal_of r) (result_unwrap_or r None)

abbrev pub FirstOverlap : List ℕ → ℕ → ℕ → Number → Type 0
FirstOverlap runs start end r = Says (overlap_fault runs start end) (first_shared runs start end) 0 r.refusal r.number

-- below all runs, in one, at the end of one, between two, past all; "given in place of a row, that number is answered by the same rule"; no runs; a run up to 2^64 - 1
examples : (row_above (2 ∷ 4 ∷ 7 ∷ 8 ∷ []) 0 ≡ 2) × (row_below (2 ∷ 4 ∷ 7 ∷ 8 ∷ []) 0 ≡ none)
    × (row_above (2 ∷ 4 ∷ 7 ∷ 8 ∷ []) 3 ≡ 3) × (row_below (2 ∷ 4 ∷ 7 ∷ 8 ∷ []) 3 ≡ 3)
    × (row_above (2 ∷ 4 ∷ 7 ∷ 8 ∷ []) 4 ≡ 7) × (row_below (2 ∷ 4 ∷ 7 ∷ 8 ∷ []) 4 ≡ 3)
    × (row_above (2 ∷ 4 ∷ 7 ∷ 8 ∷ []) 8 ≡ none) × (row_below (2 ∷ 4 ∷ 7 ∷ 8 ∷ []) 8 ≡ 7)
    × (row_above (2 ∷ 4 ∷ 7 ∷ 8 ∷ []) none ≡ none) × (row_below (2 ∷ 4 ∷ 7 ∷ 8 ∷ []) none ≡ 7)
    × (row_above [] 5 ≡ none) × (row_below [] 5 ≡ none)
    × (row_above (5 ∷ none ∷ []) none ≡ none) × (row_below (5 ∷ none ∷ []) none ≡ none - 1)
examples = (refl, refl, refl, refl, refl, refl, refl, refl, refl, refl, refl, refl, refl, refl)

-- in the first run; in the second; a range that touches a run on either side; over both runs; between them; no runs
overlaps : (first_shared (2 ∷ 4 ∷ 7 ∷ 8 ∷ []) 3 5 ≡ 0)
    × (first_shared (2 ∷ 4 ∷ 7 ∷ 8 ∷ []) 4 8 ≡ 1)
    × (first_shared (2 ∷ 4 ∷ 7 ∷ 8 ∷ []) 0 2 ≡ none)
    × (first_shared (2 ∷ 4 ∷ 7 ∷ 8 ∷ []) 4 7 ≡ none)
    × (first_shared (2 ∷ 4 ∷ 7 ∷ 8 ∷ []) 8 9 ≡ none)
    × (first_shared (2 ∷ 4 ∷ 7 ∷ 8 ∷ []) 0 9 ≡ 0)
    × (first_shared [] 0 9 ≡ none)
overlaps = (refl, refl, refl, refl, refl, refl, refl)
