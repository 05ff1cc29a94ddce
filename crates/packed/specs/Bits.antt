-- Packed bits (document 01, "Building lists", "Packed-bit ranks and presence").
use Rattle.std.specs.Prelude.{◌≡◌, refl, Bool, true, false, List, [], ◌∷◌, ℕ, zero, suc, ◌+◌, ◌-◌, ◌*◌, ◌/◌, ◌%◌, ◌^◌, ◌≤◌, ◌<◌, min, eqb, length, get_or, set}
use Rattle.std.proofs.Common.{ap, arith}
use Rattle.std.specs.Int.Count.{ones}
use Rattle.fields.specs.Refusal.{when}
use Rattle.fields.specs.Answers.{accepted}
use Rattle.fields.specs.Bytes.{from_le, number_at}
use Rattle.fields.specs.Counting.{count_below}
use Rattle.fields.specs.Limits.{too_long, max_bits}

-- "row r is bit r mod 8, lowest first, of byte r div 8"; bits past the bytes are clear
unfoldable pub bit_at : List ℕ → ℕ → Bool
bit_at bytes r = eqb (get_or bytes (r / 8) 0 / 2 ^ (r % 8) % 2) 1

-- the set bits before a place
unfoldable pub set_below : List ℕ → ℕ → ℕ
unfolding bit_at count_below
set_below bytes p = count_below (bit_at bytes) p

-- "len is cut to 8 times the bytes"
unfoldable pub cut_to : List ℕ → ℕ → ℕ
cut_to bytes len = min len (length bytes * 8)

-- a directory: for n blocks of size bits, from block i on, the set bits before each
unfoldable pub counts : ℕ → List ℕ → ℕ → ℕ → List ℕ
unfolding set_below
counts size bytes i zero = []
counts size bytes i (suc n) = set_below bytes (i * size) ∷ counts size bytes (suc i) n

-- the set bits of block i, of size bits; 0 where there are too many bytes
unfoldable pub block_count : ℕ → List ℕ → ℕ → ℕ
unfolding set_below accepted
block_count size bytes i = accepted (too_long max_bits bytes) (set_below bytes ((i + 1) * size) - set_below bytes (i * size)) 0

-- the words of eight bytes, each as its bytes
pub record WholeWords (bits : List ℕ) (ws : List (List ℕ)) : Type 0 where
  pub count : length ws ≡ length bits / 8
  pub each : (i : ℕ) → i < length ws → from_le (get_or ws i []) ≡ number_at 8 bits (i * 8)

-- a number that a 32-bit entry holds is itself (for a law of the entries)
pub narrow_set : (es : List ℕ) (i x : ℕ) → x < 2 ^ 32 → set es i (x % 2 ^ 32) ≡ set es i x
narrow_set es i x h = let e : x % 2 ^ 32 ≡ x = omega arith in ap (set es i) e

-- r is the number of set digits of a word (for the population count's own functions)
pub record Ones (word r : ℕ) : Type 0 where
  pub value : r ≡ ones word
  pub small : r ≤ 64

-- byte 0x0D: bits 0, 2 and 3
examples : (bit_at (0x0D ∷ []) 0 ≡ true)
    × (bit_at (0x0D ∷ []) 1 ≡ false)
    × (bit_at (0x0D ∷ []) 8 ≡ false)
    × (set_below (0x0D ∷ []) 3 ≡ 2)
    × (set_below (0x0D ∷ []) 80 ≡ 3)
    × (counts 8 (0x0D ∷ 0xFF ∷ 1 ∷ []) 0 4 ≡ 0 ∷ 3 ∷ 11 ∷ 12 ∷ [])
    × (block_count 8 (0x0D ∷ 0xFF ∷ 1 ∷ []) 1 ≡ 8)
unfolding bit_at set_below count_below counts block_count accepted too_long when
examples = (refl, refl, refl, refl, refl, refl, refl)
