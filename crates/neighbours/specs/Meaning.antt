-- What the answers mean, by rows and runs alone. The laws in NearestLaws.antt say so of whatever meets the calls' contracts.
use Rattle.std.specs.Prelude.{◌≡◌, Bool, true, false, List, ℕ, ◌+◌, ◌*◌, ◌≤◌, ◌<◌, length, get_or}
use Rattle.run_list.specs.Runs.{covers, has}

-- a is "the nearest listed row at or above" r: listed, at or above it, and no listed row lies between
pub record NearestAbove (ws : List ℕ) (r a : ℕ) : Type 0 where
  pub listed : has ws a ≡ true
  pub side : r ≤ a
  pub nearest : (x : ℕ) → r ≤ x → x < a → has ws x ≡ false

-- b is "the nearest at or below it"
pub record NearestBelow (ws : List ℕ) (r b : ℕ) : Type 0 where
  pub listed : has ws b ≡ true
  pub side : b ≤ r
  pub nearest : (x : ℕ) → b < x → x ≤ r → has ws x ≡ false

-- no listed row is at or above r; at or below it
abbrev pub NoneAbove : List ℕ → ℕ → Type 0
NoneAbove ws r = (x : ℕ) → r ≤ x → has ws x ≡ false

abbrev pub NoneBelow : List ℕ → ℕ → Type 0
NoneBelow ws r = (x : ℕ) → x ≤ r → has ws x ≡ false

-- run i, "by its number in the list, counted from 0", has the row x
abbrev pub run_has : List ℕ → ℕ → ℕ → Bool
run_has ws i x = covers (get_or ws (2 * i) 0) (get_or ws (2 * i + 1) 0) x

-- run i is "the first run that shares a row with a given range": it shares one, and no run before it does
pub record FirstShared (ws : List ℕ) (i a b : ℕ) : Type 0 where
  pub within : 2 * i + 1 < length ws
  pub row : ℕ
  pub from : a ≤ row
  pub below : row < b
  pub has_row : run_has ws i row ≡ true
  pub first : (j : ℕ) → j < i → (x : ℕ) → a ≤ x → x < b → run_has ws j x ≡ false

-- no run shares a row with the range
abbrev pub NoneShared : List ℕ → ℕ → ℕ → Type 0
NoneShared ws a b = (i : ℕ) → 2 * i + 1 < length ws → (x : ℕ) → a ≤ x → x < b → run_has ws i x ≡ false
