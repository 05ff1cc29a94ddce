-- The number of bytes, said by sums. Only laws are about these definitions, and not the contracts: the laws are in proofs/Sums.antt.
use Rattle.std.specs.Prelude.{◌≡◌, refl, List, [], ◌∷◌, ℕ, zero, suc, ◌+◌, ◌-◌, ◌*◌, ◌^◌, min, length, get_or}

-- f 0 + f 1 + .. + f (n - 1)
unfoldable pub sum_below : ℕ → (ℕ → ℕ) → ℕ
sum_below zero f = 0
sum_below (suc n) f = sum_below n f + f n

-- the byte at a distance from a place, "times 256 to the power of its distance"; past the bytes it "counts as zero"
abbrev pub weighed : List ℕ → ℕ → ℕ → ℕ
weighed bytes at i = get_or bytes (at + i) 0 * 256 ^ i

-- "the sum of the bytes from there on", n "at most, each times 256 to the power of its distance"
abbrev pub bytes_sum : ℕ → List ℕ → ℕ → ℕ
bytes_sum n bytes at = sum_below (min n (length bytes - at)) (weighed bytes at)

-- all bytes there, the last five absent, none there
examples : (bytes_sum 2 (9 ∷ 1 ∷ 2 ∷ 7 ∷ []) 1 ≡ 513) × (bytes_sum 8 (9 ∷ 1 ∷ 2 ∷ []) 0 ≡ 131337) × (bytes_sum 8 (9 ∷ 1 ∷ 2 ∷ []) 3 ≡ 0)
unfolding sum_below
examples = (refl, refl, refl)
