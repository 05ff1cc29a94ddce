-- What select means: which number is the one with f and so many such numbers below it. The laws in Nth.antt say so of `nth_with`.
use Rattle.std.specs.Prelude.{◌≡◌, Bool, true, ℕ, ◌<◌}
use Rattle.fields.specs.Counting.{count_below}

-- "the set bit with exactly k set bits before it, below len"
pub record Nth (f : ℕ → Bool) (n k p : ℕ) : Type 0 where
  pub below : p < n
  pub has : f p ≡ true
  pub before : count_below f p ≡ k
