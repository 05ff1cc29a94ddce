-- Edges, computed: runs that touch, runs apart, an empty run, the end of a run.
use mathlib.Core.Bool.{true, false}
use mathlib.Core.Path.{◌≡◌, refl}
use mathlib.Core.List.{[], ◌∷◌}
use Prim.Native.Nat.{ℕ}
use Rattle.fields.specs.Refusal.{when, ◌then◌}
use Rattle.fields.specs.Limits.{too_long}
use Rattle.run_list.specs.Runs.{has, run_fault, runs_fault, odd, own_fault, fault}
use Rattle.run_list.specs.Rows.{rows}
use Rattle.ranges.specs.Ranges.{words}
use Rattle.ranges.specs.declared.range.RowRange.{RowRange}

abbrev run : ℕ → ℕ → RowRange
run s e = record { end = e; start = s }

examples : (words (run 0 3 ∷ run 4 6 ∷ []) ≡ 0 ∷ 3 ∷ 4 ∷ 6 ∷ [])
    × (fault (words (run 0 3 ∷ run 3 5 ∷ [])) ≡ 4)
    × (fault (words (run 0 3 ∷ run 4 5 ∷ [])) ≡ 0)
    × (fault (words (run 5 5 ∷ [])) ≡ 3)
    × (has (words (run 0 3 ∷ run 4 6 ∷ [])) 5 ≡ true)
    × (has (words (run 0 3 ∷ run 4 6 ∷ [])) 3 ≡ false)
    × (rows (words (run 0 2 ∷ run 7 9 ∷ [])) ≡ 4)
unfolding fault too_long own_fault odd runs_fault run_fault when ◌then◌
examples = (refl, refl, refl, refl, refl, refl, refl)
