-- Counting rows or bits by a test.
use Rattle.std.specs.Prelude.{◌≡◌, Bool, true, false, ℕ, zero, suc, ◌+◌, ◌≤◌, leb}

-- a truth value as a number
abbrev pub bit : Bool → ℕ
bit true = 1
bit false = 0

-- b is 1 where word is at most r, else 0
pub record Test (word r b : ℕ) : Type 0 where
  pub value : b ≡ bit (leb word r)
  pub small : b ≤ 1

-- how many numbers below p have f (to be reasoned about by its laws, and not computed at a row number)
unfoldable pub count_below : (ℕ → Bool) → ℕ → ℕ
count_below f zero = 0
count_below f (suc p) = count_below f p + bit (f p)
