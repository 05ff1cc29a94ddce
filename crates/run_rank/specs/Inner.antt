-- What the private functions' contracts cite. No open contract needs it.
use Rattle.std.specs.Prelude.{◌≡◌, List, [], ◌∷◌, map, ℕ, zero, suc, ◌+◌, ◌-◌}
use Rattle.std.proofs.lemmas.List.Edits.{sets}
use Rattle.fields.specs.Counting.{bit}
use Rattle.run_list.specs.Runs.{has}
use Rattle.run_list.specs.Rows.{rows_below}

-- the rows of the first i runs
unfoldable pub rows_before : ℕ → List ℕ → ℕ
rows_before zero ws = 0
rows_before (suc i) [] = 0
rows_before (suc i) (s ∷ []) = 0
rows_before (suc i) (s ∷ e ∷ ws) = (e - s) + rows_before i ws

-- a rank and a flag for each position
pub record RanksAndFlags (runs positions before before₂ out out₂ : List ℕ) : Type 0 where
  pub ranks : out ≡ sets before 0 (map (rows_below runs) positions)
  pub flags : out₂ ≡ sets before₂ 0 (map (λ p. bit (has runs p)) positions)
