-- A directory built and compared entry by entry: one law for each way through the code, over the numbers of its entries.
use mathlib.Core.Path.{◌≡◌, sym, ap, ◌∙◌}
use mathlib.Core.Bool.{true, false}
use mathlib.Core.List.{List}
use Prim.Native.Nat.{ℕ, ◌+◌, ◌-◌, ◌*◌, ◌/◌, ◌^◌, ◌≤◌, ◌<◌}
use native.Mathlib.Nat.{div-mul-le_self}
use native.Mathlib.Omega.{arith}
use lib.ListN.{length, get_or, set}
use mir.Val.{Fits}
use mir.Syntax.{w64}
use Rattle.fields.specs.Directory.{same}
use Rattle.fields.proofs.Directories.{same-is}
use Rattle.fields.proofs.Counted.{Filling, filling-start, filling-next, Checking, checking-start, checking-next, checking-other, checking-end}
use Rattle.fields.specs.Limits.{max_bits}
use Rattle.packed.specs.Bits.{set_below, counts, block_count}
use Rattle.packed.proofs.Counts.{set-le, set-mono, set-bytes}
use Rattle.packed.proofs.Entries.{counted, length-counts, entry-is, scaled, next-entry, next_fits, entry-narrow}

-- the entries from i on are still to be written, and w is entry i
pub record FillingBits (size n : ℕ) (bits before : List ℕ) (i w : ℕ) (out : List ℕ) : Type 0 where
  pub short : length bits ≤ max_bits
  pub filling : Filling (counts size bits 0 n) n (λ j. set_below bits (j * size)) before i w out

-- the entries before i are the same, and w is entry i
pub record CheckingBits (size n : ℕ) (bits given : List ℕ) (i w : ℕ) : Type 0 where
  pub short : length bits ≤ max_bits
  pub checking : Checking (counts size bits 0 n) n (λ j. set_below bits (j * size)) given i w

module _ (size n : ℕ) (bits : List ℕ) where
  pub fill-start : length bits ≤ max_bits → (before : List ℕ) → n ≤ length before → FillingBits size n bits before 0 0 before
  fill-start l before h = record { short = l; filling = filling-start _ n _ before (counted size bits n) h }

  pub check-start : length bits ≤ max_bits → (given : List ℕ) → length given ≡ n → CheckingBits size n bits given 0 0
  check-start l given h = record { short = l; checking = checking-start _ n _ given (counted size bits n) h }

  module _ (before : List ℕ) (i w : ℕ) (out : List ℕ) (m : FillingBits size n bits before i w out) where
    -- an entry is a 32-bit number
    pub fill-small : w < 2 ^ 32
    fill-small = omega (arith, entry-narrow bits (i * size) w m.short m.filling.here)

    module _ (y : ℕ) (d : y ≡ block_count size bits i) where
      pub fill-fits : Fits w64 (w + y)
      fill-fits = next_fits bits size i w m.short m.filling.here y d

      pub fill-next : i < n → FillingBits size n bits before (i + 1) (w + y) (set out i w)
      fill-next h = record { short = m.short; filling = filling-next _ n _ before i w out m.filling h (w + y) (next-entry bits size i w m.short m.filling.here y d) }

  module _ (given : List ℕ) (i w : ℕ) (m : CheckingBits size n bits given i w) where
    pub check-other : i < n → (v : ℕ) → v ≡ get_or given i 0 → (v ≡ w → ⊥) → false ≡ same given (counts size bits 0 n)
    check-other h v e k = checking-other _ n _ given i w m.checking h (λ z. k (e ∙ z))

    pub check-end : n ≤ i → true ≡ same given (counts size bits 0 n)
    check-end h = checking-end _ n _ given i w m.checking h

    module _ (y : ℕ) (d : y ≡ block_count size bits i) where
      pub check-fits : Fits w64 (w + y)
      check-fits = next_fits bits size i w m.short m.checking.here y d

      pub check-next : i < n → (v : ℕ) → v ≡ get_or given i 0 → v ≡ w → CheckingBits size n bits given (i + 1) (w + y)
      check-next h v e k = record { short = m.short; checking = checking-next _ n _ given i w m.checking h (sym e ∙ k) (w + y) (next-entry bits size i w m.short m.checking.here y d) }

-- what is the directory of n blocks has the entries of as many blocks as it has entries
pub right-length : (size n : ℕ) (bits directory : List ℕ) → true ≡ same directory (counts size bits 0 n) → length directory ≡ n
right-length size n bits directory e = ap length (same-is directory (counts size bits 0 n) (sym e)) ∙ length-counts size bits 0 n

pub right-entries : (size n : ℕ) (bits directory : List ℕ) → true ≡ same directory (counts size bits 0 n) → directory ≡ counts size bits 0 (length directory)
right-entries size n bits directory e =
    rw (right-length size n bits directory e) (same-is directory (counts size bits 0 n) (sym e))

-- ---- the set bits before a place, from the entry of its block

pub from-none : (bits : List ℕ) (place r : ℕ) → r ≡ set_below bits place - set_below bits 0 → r ≡ set_below bits place
from-none bits place r e = omega (arith, e, set-le bits 0)

module _ (words : ℕ) (bits directory : List ℕ) (x : directory ≡ counts (64 * words) bits 0 (length directory)) (place w : ℕ)
    (h : place / 64 / words < length directory) (is : w ≡ get_or directory (place / 64 / words) 0) where
  entry : w ≡ set_below bits (place / 64 / words * words * 64)
  entry =
      is ∙ rw x (entry-is (64 * words) bits (length directory) (place / 64 / words) h) ∙ ap (set_below bits) (scaled (place / 64 / words) words)

  module _ (y : ℕ) (e : y ≡ set_below bits place - set_below bits (place / 64 / words * words * 64)) where
    sum : w + y ≡ set_below bits place
    sum = omega (arith, entry, e, set-mono bits (place / 64 / words * words * 64) place (omega (arith, div-mul-le_self (place / 64) words)))

    -- there are no more set bits than bits
    pub below-fits : length bits ≤ max_bits → Fits w64 (w + y)
    below-fits l = record { fits = omega (arith, sum, set-bytes bits place) }

    pub below-is : w + y ≡ set_below bits place
    below-is = sum
