-- The search by quarters for the words at most a row, as it goes on any words. On words that rise it gives their number, `upper_bound` (`searched-rising`).
use Rattle.std.specs.Prelude.{◌≡◌, refl, cond, List, [], ◌∷◌, ℕ, zero, suc, ◌+◌, ◌-◌, ◌*◌, ◌/◌, ◌<◌, leb, ltb, length, get_or}
use Rattle.fields.specs.Counting.{bit}

-- 1 where the word at i is at most r
abbrev pub reached : ℕ → List ℕ → ℕ → ℕ
reached r ws i = bit (leb (get_or ws i 0) r)

-- n words, one after another: the place moves past a word that is at most r
unfoldable pub linear : ℕ → List ℕ → ℕ → ℕ → ℕ
linear r ws base zero = base
linear r ws base (suc n) = linear r ws (base + reached r ws base) n

-- the place moves q words for each of three words, q apart, that is at most r
unfoldable pub quarter : ℕ → List ℕ → ℕ → ℕ → ℕ
quarter r ws base q = base + (reached r ws (base + q) + reached r ws (base + 2 * q) + reached r ws (base + 3 * q)) * q

-- while more than three words are left, three quarters of them are passed or left out; a list of n words has no more than n such passes
unfoldable pub quarters : ℕ → ℕ → List ℕ → ℕ → ℕ → ℕ
unfolding linear quarter
quarters zero r ws base size = linear r ws base size
quarters (suc n) r ws base size = cond (ltb 3 size) (quarters n r ws (quarter r ws base (size / 4)) (size - 3 * (size / 4))) (linear r ws base size)

unfoldable pub searched : ℕ → List ℕ → ℕ
unfolding quarters
searched r ws = quarters (length ws) r ws 0 (length ws)

-- searches for several rows: each place moves by a step from its row and itself
pub record Moved (step : ℕ → ℕ → ℕ) (rows before after : List ℕ) : Type 0 where
  pub size : length after ≡ length before
  pub each : (j : ℕ) → j < length rows → get_or after j 0 ≡ step (get_or rows j 0) (get_or before j 0)

-- no words; rising words; falling words
examples : (searched 5 [] ≡ 0)
    × (searched 5 (1 ∷ 3 ∷ 5 ∷ 7 ∷ 9 ∷ []) ≡ 3)
    × (searched 0 (1 ∷ 3 ∷ 5 ∷ 7 ∷ 9 ∷ []) ≡ 0)
    × (searched 9 (1 ∷ 3 ∷ 5 ∷ 7 ∷ 9 ∷ []) ≡ 5)
    × (searched 5 (9 ∷ 7 ∷ 5 ∷ 3 ∷ 1 ∷ []) ≡ 4)
unfolding searched quarters quarter linear
examples = (refl, refl, refl, refl, refl)
