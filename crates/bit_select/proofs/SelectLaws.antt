-- Select over packed bits: what it means, and that rank and select undo each other.
use mathlib.Core.Path.{◌≡◌, refl}
use mathlib.Core.Bool.{true}
use mathlib.Core.Logic.{⊎_elim}
use mathlib.Core.List.{List}
use Prim.Native.Nat.{ℕ, suc, ◌≤◌, ◌<◌, min}
use native.Mathlib.Omega.{arith}
use Rattle.fields.specs.Answers.{none}
use Rattle.fields.proofs.Tests.{split-le}
use Rattle.packed.specs.Bits.{bit_at, set_below}
use Rattle.byte_select.specs.Meaning.{Nth}
use Rattle.byte_select.proofs.Nth.{nth-found}
use Rattle.bit_rank.specs.BitRanks.{bit_rank}
use Rattle.bit_select.specs.BitSelects.{bit_select}
use Rattle.bit_select.proofs.Blocks.{select-is, select-none}

-- end is a length within the bits: `len`, cut
module _ (bits : List ℕ) (end : ℕ) where
  -- the answer is the set bit with exactly k set bits before it, below end: there is none other
  pub bit-only : (k p : ℕ) → Nth (bit_at bits) end k p → bit_select bits end k ≡ p
  unfolding set_below
  bit-only k p m = select-is bits end k p (record { set = m.has; before = m.before }) m.below

  -- it is such a bit wherever there are more than k set bits
  pub bit-found : (k : ℕ) → k < set_below bits end → Nth (bit_at bits) end k (bit_select bits end k)
  unfolding set_below
  bit-found k h = let m = nth-found (bit_at bits) k end h in rw (bit-only k _ m) m

  -- none from the total on
  pub bit-past : (k : ℕ) → set_below bits end ≤ k → bit_select bits end k ≡ none
  bit-past = select-none bits end

  -- and only there
  pub bit-none : end ≤ none → (k : ℕ) → (set_below bits end ≤ k → bit_select bits end k ≡ none) × (bit_select bits end k ≡ none → set_below bits end ≤ k)
  bit-none l k = (bit-past k, λ e. ⊎_elim (λ h. absurd (omega (arith, e, (bit-found k h.1).below))) (λ h. omega (arith, h.1)) (split-le (suc k) (set_below bits end)))

  -- the rank of what select gives for k is k
  pub rank-select : (k : ℕ) → k < set_below bits end → bit_rank bits end (bit_select bits end k) ≡ k
  unfolding bit_rank set_below
  rank-select k h = let m = bit-found k h in let e : min (bit_select bits end k) end ≡ bit_select bits end k = omega (arith, m.below) in rw e m.before

  -- select of the rank at a set bit below end is that bit
  pub select-rank : (p : ℕ) → p < end → bit_at bits p ≡ true → bit_select bits end (bit_rank bits end p) ≡ p
  unfolding bit_rank set_below
  select-rank p h t = let e : min p end ≡ p = omega arith in bit-only (bit_rank bits end p) p (record { below = h; has = t; before = rw e refl })
