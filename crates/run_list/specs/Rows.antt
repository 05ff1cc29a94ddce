-- Rows of a run list: their number, and a row's place among the words.
use Rattle.std.specs.Prelude.{cond, List, [], ◌∷◌, ℕ, suc, ◌+◌, ◌-◌, min, leb}

-- the rows of all runs; in a valid list the number of listed rows (`rows-count`)
abbrev pub rows : List ℕ → ℕ
rows [] = 0
rows (s ∷ []) = 0
rows (s ∷ e ∷ ws) = (e - s) + rows ws

-- the rows of all runs that are below p; in a valid list the number of listed rows below p (`below-count`)
abbrev pub rows_below : List ℕ → ℕ → ℕ
rows_below [] p = 0
rows_below (s ∷ []) p = 0
rows_below (s ∷ e ∷ ws) p = (min p e - s) + rows_below ws p

-- the words at the front that are at most r
abbrev pub upper_bound : ℕ → List ℕ → ℕ
upper_bound r [] = 0
upper_bound r (x ∷ ws) = cond (leb x r) (suc (upper_bound r ws)) 0
