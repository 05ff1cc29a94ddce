-- Tests on numbers, each with what it shows.
use mathlib.Core.Path.{◌≡◌, refl, sym}
use mathlib.Core.Bool.{Bool, true, false, not, cond, true≢false}
use mathlib.Core.Logic.{◌⊎◌, inl, inr}
use Prim.Native.Nat.{ℕ, ◌≤◌, ◌<◌}
use borrow.Author.Tests.{leb-true, leb-false, eqb-true, eqb-false}
use lib.Dec.{leb, eqb}

pub split-le : (a b : ℕ) → ((leb a b ≡ true) × (a ≤ b)) ⊎ ((leb a b ≡ false) × (b < a))
split-le a b = go (leb a b) refl
  where
    go : (t : Bool) → leb a b ≡ t → ((leb a b ≡ true) × (a ≤ b)) ⊎ ((leb a b ≡ false) × (b < a))
    go true e = inl (e, leb-true a b e)
    go false e = inr (e, leb-false a b e)

pub split-eq : (a b : ℕ) → ((eqb a b ≡ true) × (a ≡ b)) ⊎ ((eqb a b ≡ false) × (a ≡ b → ⊥))
split-eq a b = go (eqb a b) refl
  where
    go : (t : Bool) → eqb a b ≡ t → ((eqb a b ≡ true) × (a ≡ b)) ⊎ ((eqb a b ≡ false) × (a ≡ b → ⊥))
    go true e = inl (e, eqb-true a b e)
    go false e = inr (e, eqb-false a b e)

pub cond_same : {A : Type 0} (t : Bool) (a : A) → cond t a a ≡ a
cond_same true a = refl
cond_same false a = refl

pub not-self : (p : Bool) → p ≡ not p → ⊥
not-self true e = true≢false e
not-self false e = true≢false (sym e)
