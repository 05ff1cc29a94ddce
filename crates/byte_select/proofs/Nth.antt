-- What select by counting means: the number found has f and k such numbers below it, it is the only one, and there is one exactly if there are more than k.
use mathlib.Core.Path.{◌≡◌, refl, sym, ◌∙◌}
use mathlib.Core.Bool.{Bool, true, false, ◌&&◌}
use mathlib.Core.Logic.{⊎_elim}
use Prim.Native.Nat.{ℕ, zero, suc, ◌+◌, ◌≤◌, ◌<◌}
use native.Mathlib.Nat.{add-zero}
use native.Mathlib.Omega.{arith}
use borrow.Author.Tests.{eq-eqb, ne_eqb}
use lib.Dec.{eqb}
use Rattle.fields.specs.Counting.{count_below}
use Rattle.fields.proofs.Counting.{count_past, count-row}
use Rattle.fields.proofs.Tests.{split-le}
use Rattle.byte_select.specs.Select.{first_with, nth_with}
use Rattle.byte_select.specs.Meaning.{Nth}

-- ---- the first number with f

first-none : (f : ℕ → Bool) (p n : ℕ) → ((q : ℕ) → p ≤ q → q < p + n → f q ≡ false) → first_with f p n ≡ p + n
unfolding first_with
first-none f p zero h = sym (add-zero p)
first-none f p (suc n) h =
    rw (h p (omega arith) (omega arith)) (first-none f (suc p) n (λ q l u. h q (omega arith) (omega arith)) ∙ omega arith)

first-is : (f : ℕ → Bool) (p n r : ℕ) → p ≤ r → r < p + n → f r ≡ true → ((q : ℕ) → p ≤ q → q < r → f q ≡ false) → first_with f p n ≡ r
unfolding first_with
first-is f p zero r l u t h = absurd (omega arith)
first-is f p (suc n) r l u t h =
    ⊎_elim
    (λ e. rw (h p (omega arith) (omega (arith, e.1))) (first-is f (suc p) n r (omega (arith, e.1)) (omega arith) t (λ q a b. h q (omega arith) b)))
    (λ e. let here : r ≡ p = omega (arith, e.1) in rw (rw here at t) (sym here)) (split-le (suc p) r)

-- ---- the one with k such numbers below it

module _ (f : ℕ → Bool) (k : ℕ) where
  -- the test that `nth_with` makes
  abbrev counted : ℕ → Bool
  counted p = f p && eqb (count_below f p) k

  counted-true : (p : ℕ) → f p ≡ true → count_below f p ≡ k → counted p ≡ true
  counted-true p t e = rw t (eq-eqb (count_below f p) k e)

  counted-false : (p : ℕ) → (f p ≡ true → count_below f p ≡ k → ⊥) → counted p ≡ false
  counted-false p h = go (f p) refl
    where
      go : (t : Bool) → f p ≡ t → t && eqb (count_below f p) k ≡ false
      go true e = ne_eqb (count_below f p) k (h e)
      go false e = refl

  -- there is no more than one
  pub nth-is : (n p : ℕ) → Nth f n k p → nth_with f n k ≡ p
  unfolding nth_with
  nth-is n p m =
      first-is counted 0 n p (omega arith) (omega (arith, m.below)) (counted-true p m.has m.before)
      (λ q l u. counted-false q (λ t e. let same = count-row f q p t m.has (e ∙ sym m.before) in omega (arith, same)))

  pub nth-none : (n : ℕ) → count_below f n ≤ k → nth_with f n k ≡ n
  unfolding nth_with
  nth-none n h = first-none counted 0 n (λ q l u. counted-false q (λ t e. omega (arith, count_past f q n t (omega arith)))) ∙ omega arith

  -- there is one where there are more than k
  nth_there : (n : ℕ) → k < count_below f n → (p : ℕ) × Nth f n k p
  unfolding count_below
  nth_there zero h = absurd (omega arith)
  nth_there (suc n) h =
      ⊎_elim
      (λ e. let m = nth_there n e.1 in (m.0, record { below = omega (arith, m.1.below); has = m.1.has; before = m.1.before }))
      (λ e. (n, last e.1 (f n) refl)) (split-le (suc k) (count_below f n))
    where
      last : count_below f n < suc k → (t : Bool) → f n ≡ t → Nth f (suc n) k n
      last u true e = record { below = omega arith; has = e; before = omega (arith, u, rw e at h) }
      last u false e = absurd (omega (arith, u, rw e at h))

  pub nth-found : (n : ℕ) → k < count_below f n → Nth f n k (nth_with f n k)
  nth-found n h = let m = nth_there n h in rw (nth-is n m.0 m.1) m.1

  -- the number itself where there is one, and n where there is none
  pub nth-le : (n : ℕ) → nth_with f n k ≤ n
  nth-le n = ⊎_elim (λ e. omega (arith, (nth-found n e.1).below)) (λ e. omega (arith, nth-none n (omega (arith, e.1)))) (split-le (suc k) (count_below f n))

  -- and only there
  pub nth-more : (n : ℕ) → nth_with f n k < n → k < count_below f n
  nth-more n h = ⊎_elim (λ e. omega (arith, e.1)) (λ e. absurd (omega (arith, h, nth-none n (omega (arith, e.1))))) (split-le (suc k) (count_below f n))
