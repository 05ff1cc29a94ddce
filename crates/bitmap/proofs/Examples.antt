-- Edges, computed: what the set calls' definitions give on small inputs, as outcomes.
use mathlib.Core.Path.{◌≡◌, refl}
use mathlib.Core.Bool.{Bool}
use mathlib.Core.List.{List, [], ◌∷◌}
use Prim.Native.Nat.{ℕ}
use lib.ListN.{length}
use Rattle.fields.specs.Refusal.{when, ◌then◌}
use Rattle.fields.specs.Answers.{accepted, padded, over, after, short}
use Rattle.fields.proofs.Outcomes.{Outcome, outcome, sevens}
use Rattle.fields.specs.Limits.{too_long, no_room, max_words}
use Rattle.run_list.specs.Runs.{run_fault, runs_fault, odd, own_fault, fault2}
use Rattle.boundary.specs.Merge.{merge, combine, either, both, left_only}

sets : (Bool → Bool → Bool) → List ℕ → List ℕ → List ℕ → Outcome
sets op a b before = outcome (fault2 a b then no_room max_words (length (combine op a b)) (length before)) (combine op a b) 0 before

-- empty lists; identical lists; runs that touch, each in a valid list; a list less itself
set-edges : (sets either [] [] sevens ≡ (0, 0, sevens))
    × (sets either (0 ∷ 3 ∷ []) [] sevens ≡ (0, 2, 0 ∷ 3 ∷ 7 ∷ []))
    × (sets both (0 ∷ 3 ∷ []) [] sevens ≡ (0, 0, sevens))
    × (sets either (0 ∷ 3 ∷ []) (0 ∷ 3 ∷ []) sevens ≡ (0, 2, 0 ∷ 3 ∷ 7 ∷ []))
    × (sets both (0 ∷ 3 ∷ []) (0 ∷ 3 ∷ []) sevens ≡ (0, 2, 0 ∷ 3 ∷ 7 ∷ []))
    × (sets left_only (0 ∷ 3 ∷ []) (0 ∷ 3 ∷ []) sevens ≡ (0, 0, sevens))
    × (sets either (0 ∷ 3 ∷ []) (3 ∷ 5 ∷ []) sevens ≡ (0, 2, 0 ∷ 5 ∷ 7 ∷ []))
unfolding sets outcome fault2 too_long own_fault odd runs_fault run_fault when ◌then◌ no_room short accepted after padded over combine merge
set-edges = (refl, refl, refl, refl, refl, refl, refl)

-- an end of 2^64 - 1, the greatest word: row 2^64 - 2 is the last one
last_row : (sets either (5 ∷ 18446744073709551615 ∷ []) (0 ∷ 5 ∷ []) sevens ≡ (0, 2, 0 ∷ 18446744073709551615 ∷ 7 ∷ []))
    × (sets left_only (0 ∷ 18446744073709551615 ∷ []) (18446744073709551614 ∷ 18446744073709551615 ∷ []) sevens ≡ (0, 2, 0 ∷ 18446744073709551614 ∷ 7 ∷ []))
unfolding sets outcome fault2 too_long own_fault odd runs_fault run_fault when ◌then◌ no_room short accepted after padded over combine merge
last_row = (refl, refl)

-- an output as long as the result, and one word shorter
room : (sets left_only (0 ∷ 10 ∷ []) (2 ∷ 3 ∷ []) (7 ∷ 7 ∷ 7 ∷ 7 ∷ []) ≡ (0, 4, 0 ∷ 2 ∷ 3 ∷ 10 ∷ []))
    × (sets left_only (0 ∷ 10 ∷ []) (2 ∷ 3 ∷ []) sevens ≡ (10, 0, sevens))
    × (sets either [] [] [] ≡ (0, 0, []))
unfolding sets outcome fault2 too_long own_fault odd runs_fault run_fault when ◌then◌ no_room short accepted after padded over combine merge
room = (refl, refl, refl)

-- left before right, 6 before the rest, 3 before 4 within a run
order : (sets either (0 ∷ 3 ∷ 3 ∷ 5 ∷ []) (5 ∷ 5 ∷ []) sevens ≡ (4, 0, sevens))
    × (sets either (0 ∷ 3 ∷ []) (5 ∷ 5 ∷ []) [] ≡ (3, 0, []))
    × (sets either (5 ∷ 5 ∷ 9 ∷ []) (5 ∷ 5 ∷ []) sevens ≡ (6, 0, sevens))
    × (sets either (4 ∷ 6 ∷ 2 ∷ 1 ∷ []) [] sevens ≡ (3, 0, sevens))
unfolding sets outcome fault2 too_long own_fault odd runs_fault run_fault when ◌then◌ no_room short accepted after padded over combine merge
order = (refl, refl, refl, refl)
