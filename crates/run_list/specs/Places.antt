-- Where a row is among the runs of a list (REQUESTS.md, job 7).
use Rattle.std.specs.Prelude.{◌≡◌, refl, true, false, List, [], ◌∷◌, ℕ, ◌+◌, ◌-◌, ◌/◌, ◌%◌, leb, eqb}
use Rattle.fields.specs.Counting.{bit}
use Rattle.run_list.specs.Runs.{has}
use Rattle.run_list.specs.declared.place.Place.{Place}

-- "the number of runs whose start is at or below the row"
abbrev pub begun : List ℕ → ℕ → ℕ
begun [] r = 0
begun (s ∷ []) r = 0
begun (s ∷ e ∷ ws) r = bit (leb s r) + begun ws r

-- that number, "together with yes or no"
abbrev pub place : List ℕ → ℕ → Place
place ws r = record { begun = begun ws r; listed = has ws r }

-- the number of runs that end at or below the row: all that have begun but the one that has it
abbrev pub ended : Place → ℕ
ended p = p.begun - bit p.listed

-- the place of a row that n words are at most: each second word, the first one too, is a start, and the row is listed where the last is one
abbrev pub place_after : ℕ → Place
place_after n = record { begun = n / 2 + n % 2; listed = eqb (n % 2) 1 }

-- below all runs; at a start; at an end; in the gap between two runs; past all; no runs
examples : (place (2 ∷ 4 ∷ 7 ∷ 8 ∷ []) 1 ≡ record { begun = 0; listed = false })
    × (place (2 ∷ 4 ∷ 7 ∷ 8 ∷ []) 2 ≡ record { begun = 1; listed = true })
    × (place (2 ∷ 4 ∷ 7 ∷ 8 ∷ []) 4 ≡ record { begun = 1; listed = false })
    × (place (2 ∷ 4 ∷ 7 ∷ 8 ∷ []) 6 ≡ record { begun = 1; listed = false })
    × (place (2 ∷ 4 ∷ 7 ∷ 8 ∷ []) 9 ≡ record { begun = 2; listed = false })
    × (place [] 5 ≡ record { begun = 0; listed = false })
examples = (refl, refl, refl, refl, refl, refl)
