-- Run lists as words: start, end, start, end (document 01, "words and runs").
use Rattle.std.specs.Prelude.{Bool, false, ◌&&◌, ◌||◌, List, [], ◌∷◌, ℕ, suc, ◌%◌, ◌≤◌, ◌<◌, leb, ltb, eqb, length}
use Rattle.fields.specs.Refusal.{when, ◌then◌}
use Rattle.fields.specs.Limits.{too_long, max_words}

-- "A run is a start and an end; its rows r have start <= r < end"
abbrev pub covers : ℕ → ℕ → ℕ → Bool
covers s e r = leb s r && ltb r e

-- row r is listed: a run has it
abbrev pub has : List ℕ → ℕ → Bool
has [] r = false
has (s ∷ []) r = false
has (s ∷ e ∷ ws) r = covers s e r || has ws r

-- "It is valid when every start is below its end and every start is above the previous end": here the first start is at least lo
abbrev pub ValidFrom : ℕ → List ℕ → Type 0
ValidFrom lo [] = Unit {0}
ValidFrom lo (s ∷ []) = ⊥
ValidFrom lo (s ∷ e ∷ ws) = (lo ≤ s) × (s < e) × ValidFrom (suc e) ws

abbrev pub Valid : List ℕ → Type 0
Valid ws = ValidFrom 0 ws

-- ---- refusals

-- the refusal of a run whose start must be at least lo: "within one run 3 before 4"
unfoldable pub run_fault : ℕ → ℕ → ℕ → ℕ
run_fault lo s e = when (leb e s) 3 then when (ltb s lo) 4

-- the first refusal among runs, front to back
unfoldable pub runs_fault : ℕ → List ℕ → ℕ
unfolding run_fault
runs_fault lo [] = 0
runs_fault lo (s ∷ []) = 0
runs_fault lo (s ∷ e ∷ ws) = run_fault lo s e then runs_fault (suc e) ws

unfoldable pub odd : List ℕ → Bool
odd ws = eqb (length ws % 2) 1

-- "word lists: 6 before the rest"
unfoldable pub own_fault : List ℕ → ℕ
unfolding odd runs_fault
own_fault ws = when (odd ws) 6 then runs_fault 0 ws

-- of one run list
unfoldable pub fault : List ℕ → ℕ
unfolding too_long own_fault
fault ws = too_long max_words ws then own_fault ws

-- of two: "1 for each argument in turn, then each argument's own faults front to back, left before right"
unfoldable pub fault2 : List ℕ → List ℕ → ℕ
unfolding too_long own_fault
fault2 a b = too_long max_words a then too_long max_words b then own_fault a then own_fault b
