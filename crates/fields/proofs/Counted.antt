-- A directory whose words are counted on, each from the one before it: built and compared word by word.
use mathlib.Core.Path.{◌≡◌, ◌∙◌}
use mathlib.Core.Bool.{true, false}
use mathlib.Core.List.{List}
use Prim.Native.Nat.{ℕ, ◌+◌, ◌≤◌, ◌<◌}
use native.Mathlib.Omega.{arith}
use lib.ListN.{length, get_or, set}
use Rattle.fields.specs.Directory.{same}
use Rattle.fields.proofs.Storing.{Storing, storing-start, storing-next}
use Rattle.fields.proofs.Directories.{Comparing, compare-start, compare-next, compare-other, compare-end}

-- the n words of a directory, by their places; the first one is 0
pub record Entries (right : List ℕ) (n : ℕ) (entry : ℕ → ℕ) : Type 0 where
  pub size : n ≡ length right
  pub first : 0 ≡ entry 0
  pub each : (i : ℕ) → i < n → entry i ≡ get_or right i 0

-- built: the words from i on are still to be stored, and w is word i
pub record Filling (right : List ℕ) (n : ℕ) (entry : ℕ → ℕ) (before : List ℕ) (i w : ℕ) (out : List ℕ) : Type 0 where
  pub entries : Entries right n entry
  pub storing : Storing right n before i out
  pub here : w ≡ entry i

-- compared: the words before i are the same, and w is word i
pub record Checking (right : List ℕ) (n : ℕ) (entry : ℕ → ℕ) (given : List ℕ) (i w : ℕ) : Type 0 where
  pub entries : Entries right n entry
  pub comparing : Comparing given right n i
  pub here : w ≡ entry i

module _ (right : List ℕ) (n : ℕ) (entry : ℕ → ℕ) (before : List ℕ) where
  pub filling-start : Entries right n entry → n ≤ length before → Filling right n entry before 0 0 before
  filling-start e h = record { entries = e; storing = storing-start right n before e.size (omega (arith, e.size)); here = e.first }

  module _ (i w : ℕ) (out : List ℕ) (m : Filling right n entry before i w out) where
    pub filling-next : i < n → (next : ℕ) → next ≡ entry (i + 1) → Filling right n entry before (i + 1) next (set out i w)
    filling-next h next e =
        record { entries = m.entries; storing = storing-next right n before i out m.storing h w (m.here ∙ m.entries.each i h); here = e }

module _ (right : List ℕ) (n : ℕ) (entry : ℕ → ℕ) (given : List ℕ) where
  pub checking-start : Entries right n entry → length given ≡ n → Checking right n entry given 0 0
  checking-start e h = record { entries = e; comparing = compare-start given right n e.size h; here = e.first }

  module _ (i w : ℕ) (m : Checking right n entry given i w) where
    pub checking-next : i < n → get_or given i 0 ≡ w → (next : ℕ) → next ≡ entry (i + 1) → Checking right n entry given (i + 1) next
    checking-next h k next e =
        record { entries = m.entries; comparing = compare-next given right n i m.comparing h w (m.here ∙ m.entries.each i h) k; here = e }

    pub checking-other : i < n → (get_or given i 0 ≡ w → ⊥) → false ≡ same given right
    checking-other h = compare-other given right n i m.comparing h w (m.here ∙ m.entries.each i h)

    pub checking-end : n ≤ i → true ≡ same given right
    checking-end = compare-end given right n i m.comparing
