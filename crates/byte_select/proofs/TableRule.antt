-- The table's rule, at all of its entries, by one computed test.
use mathlib.Core.Path.{◌≡◌, refl, ap, ◌∙◌}
use mathlib.Core.List.{List, [], ◌∷◌}
use Prim.Native.Nat.{ℕ, ◌+◌, ◌*◌, ◌/◌, ◌%◌, ◌<◌}
use native.Mathlib.Omega.{arith}
use lib.ListN.{get_or}
use Rattle.std.proofs.lemmas.List.FromFn.{get_or-map-range_with_len}
use Rattle.fields.specs.Counting.{count_below}
use Rattle.fields.proofs.Counting.{count-le}
use Rattle.packed.specs.Bits.{bit_at}
use Rattle.byte_select.specs.Select.{nth_with, first_with, entry, table}
use Rattle.byte_select.specs.declared.TheConstants.{SELECT_IN_BYTE}
use Rattle.byte_select.proofs.Nth.{nth-none}

-- the test, computed over the whole table
pub table-right : SELECT_IN_BYTE ≡ table
unfolding table entry nth_with first_with count_below bit_at
table-right = refl

-- "entry 8 times b plus j is the place of the j-th set bit of byte b, counted from 0, or 8 if there is none"
pub table-entry : (b j none : ℕ) → b < 256 → j < 8 → get_or SELECT_IN_BYTE (8 * b + j) none ≡ nth_with (bit_at (b ∷ [])) 8 j
unfolding table entry
table-entry b j none g h =
    let q : (8 * b + j) / 8 ≡ b = omega arith in
    let m : (8 * b + j) % 8 ≡ j = omega arith in
    ap (λ (t : List ℕ). get_or t (8 * b + j) none) table-right
    ∙ get_or-map-range_with_len entry 0 2048 (8 * b + j) (8 * b + j) none (omega arith) (omega arith)
    ∙ rw (q, m) refl

-- there is no ninth set bit
pub table-past : (b j : ℕ) → 7 < j → 8 ≡ nth_with (bit_at (b ∷ [])) 8 j
table-past b j h = rw (nth-none (bit_at (b ∷ [])) j 8 (omega (arith, count-le (bit_at (b ∷ [])) 8))) refl
