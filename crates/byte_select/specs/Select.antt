-- Select by counting, and the table of the places of set bits in bytes (REQUESTS.md, job 6).
use Rattle.std.specs.Prelude.{◌≡◌, refl, cond, Bool, ◌&&◌, List, [], ◌∷◌, map, ℕ, zero, suc, ◌/◌, ◌%◌, eqb}
use Rattle.std.specs.List.{range_with_len}
use Rattle.fields.specs.Counting.{count_below}
use Rattle.packed.specs.Bits.{bit_at}

-- the first number that has f, of n numbers from p on; p + n where there is none
unfoldable pub first_with : (ℕ → Bool) → ℕ → ℕ → ℕ
first_with f p zero = p
first_with f p (suc n) = cond (f p) p (first_with f (suc p) n)

-- the number below n that has f and exactly k such numbers below it; n where there is none
unfoldable pub nth_with : (ℕ → Bool) → ℕ → ℕ → ℕ
unfolding first_with
nth_with f n k = first_with (λ p. f p && eqb (count_below f p) k) 0 n

-- "entry 8 times b plus j is the place of the j-th set bit of byte b, counted from 0, or 8 if there is none"
unfoldable pub entry : ℕ → ℕ
unfolding nth_with
entry i = nth_with (bit_at (i / 8 ∷ [])) 8 (i % 8)

-- "a table of 2,048 small numbers"
unfoldable pub table : List ℕ
unfolding entry
table = map entry (range_with_len 0 2048)

-- byte 0x0D: bits 0, 2 and 3
examples : (map (nth_with (bit_at (0x0D ∷ [])) 8) (0 ∷ 1 ∷ 2 ∷ 3 ∷ 9 ∷ []) ≡ 0 ∷ 2 ∷ 3 ∷ 8 ∷ 8 ∷ [])
    × (map entry (104 ∷ 105 ∷ 106 ∷ 107 ∷ []) ≡ 0 ∷ 2 ∷ 3 ∷ 8 ∷ [])
unfolding nth_with first_with bit_at count_below entry
examples = (refl, refl)
