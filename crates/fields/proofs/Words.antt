-- std's little-endian bytes are those of Bytes.antt.
use Rattle.std.proofs.Common.{◌≡◌, ℕ, ◌*◌, ◌/◌, List, [], ◌∷◌, length, arith}
use Rattle.std.specs.Int.{from_le_bytes, to_le_bytes, w32, w64}
use native.Mathlib.Nat.{div-div-eq-div-mul}
use Rattle.fields.specs.Bytes.{from_le, to_le}

pub from_le-bytes : (bs : List ℕ) → length bs ≡ 8 → from_le_bytes w64 bs ≡ from_le bs
unfolding from_le
from_le-bytes [] l = absurd (omega arith)
from_le-bytes (a ∷ []) l = absurd (omega arith)
from_le-bytes (a ∷ b ∷ []) l = absurd (omega arith)
from_le-bytes (a ∷ b ∷ c ∷ []) l = absurd (omega arith)
from_le-bytes (a ∷ b ∷ c ∷ d ∷ []) l = absurd (omega arith)
from_le-bytes (a ∷ b ∷ c ∷ d ∷ e ∷ []) l = absurd (omega arith)
from_le-bytes (a ∷ b ∷ c ∷ d ∷ e ∷ f ∷ []) l = absurd (omega arith)
from_le-bytes (a ∷ b ∷ c ∷ d ∷ e ∷ f ∷ g ∷ []) l = absurd (omega arith)
from_le-bytes (a ∷ b ∷ c ∷ d ∷ e ∷ f ∷ g ∷ h ∷ []) l = omega arith
from_le-bytes (a ∷ b ∷ c ∷ d ∷ e ∷ f ∷ g ∷ h ∷ i ∷ bs) l = absurd (omega arith)

pub from_le-bytes_4 : (bs : List ℕ) → length bs ≡ 4 → from_le_bytes w32 bs ≡ from_le bs
unfolding from_le
from_le-bytes_4 [] l = absurd (omega arith)
from_le-bytes_4 (a ∷ []) l = absurd (omega arith)
from_le-bytes_4 (a ∷ b ∷ []) l = absurd (omega arith)
from_le-bytes_4 (a ∷ b ∷ c ∷ []) l = absurd (omega arith)
from_le-bytes_4 (a ∷ b ∷ c ∷ d ∷ []) l = omega arith
from_le-bytes_4 (a ∷ b ∷ c ∷ d ∷ e ∷ bs) l = absurd (omega arith)

pub to_le-bytes_8 : (x : ℕ) → to_le_bytes w64 x ≡ to_le 8 x
unfolding to_le
to_le-bytes_8 x =
    let d : (m n : ℕ) → x / m / n ≡ x / (m * n) = λ m n. div-div-eq-div-mul x m n in
    rw (d 256 256, d 65536 256, d 16777216 256, d 4294967296 256, d 1099511627776 256, d 281474976710656 256)

pub to_le-bytes_4 : (x : ℕ) → to_le_bytes w32 x ≡ to_le 4 x
unfolding to_le
to_le-bytes_4 x =
    let d : (m n : ℕ) → x / m / n ≡ x / (m * n) = λ m n. div-div-eq-div-mul x m n in
    rw (d 256 256, d 65536 256)
