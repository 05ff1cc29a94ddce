-- Numbers in bytes, little-endian (document 01, "Block and index bytes").
use Rattle.std.specs.Prelude.{◌≡◌, refl, cond, List, [], ◌∷◌, ℕ, zero, suc, ◌+◌, ◌*◌, ◌/◌, ◌%◌, ◌<◌, leb, length, take, drop, get_or}
use Rattle.std.proofs.lemmas.List.Edits.{sets}

-- the sum of the bytes, each times 256 to the power of its distance from the first
unfoldable pub from_le : List ℕ → ℕ
from_le [] = 0
from_le (b ∷ bs) = b + 256 * from_le bs

-- the number of the bytes from a place on, n at most: absent bytes count as zero
unfoldable pub number_at : ℕ → List ℕ → ℕ → ℕ
number_at n bytes at = from_le (take n (drop at bytes))

-- the n lowest bytes of x, lowest first
unfoldable pub to_le : ℕ → ℕ → List ℕ
to_le zero x = []
to_le (suc n) x = (x % 256) ∷ to_le n (x / 256)

-- v stored from a place on where all of it fits; nothing stored where it does not
unfoldable pub stored : List ℕ → ℕ → List ℕ → List ℕ
stored l at v = cond (leb (at + length v) (length l)) (sets l at v) l

-- each is a byte
abbrev pub Bytes : List ℕ → Type 0
Bytes bs = (i : ℕ) → get_or bs i 0 < 256

examples : (number_at 4 (9 ∷ 1 ∷ 2 ∷ 0 ∷ 0 ∷ 7 ∷ []) 1 ≡ 513)
    × (number_at 8 (9 ∷ 1 ∷ 2 ∷ []) 1 ≡ 513)
    × (number_at 8 (9 ∷ 1 ∷ 2 ∷ []) 3 ≡ 0)
    × (stored (9 ∷ 9 ∷ 9 ∷ 9 ∷ []) 1 (to_le 2 513) ≡ 9 ∷ 1 ∷ 2 ∷ 9 ∷ [])
    × (stored (9 ∷ 9 ∷ 9 ∷ 9 ∷ []) 3 (to_le 2 513) ≡ 9 ∷ 9 ∷ 9 ∷ 9 ∷ [])
unfolding number_at from_le to_le stored
examples = (refl, refl, refl, refl, refl)
