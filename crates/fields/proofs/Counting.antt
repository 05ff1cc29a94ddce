-- Laws of counting.
use mathlib.Core.Path.{◌≡◌, refl}
use mathlib.Core.Bool.{Bool, true, false}
use mathlib.Core.Logic.{⊎_elim}
use Prim.Native.Nat.{ℕ, zero, suc, ◌+◌, ◌-◌, ◌≤◌, ◌<◌}
use native.Mathlib.Nat.{add-zero, add-suc}
use native.Mathlib.Omega.{arith}
use Rattle.fields.specs.Counting.{bit, count_below}
use Rattle.fields.proofs.Tests.{split-le}

pub bit-small : (b : Bool) → bit b ≤ 1
bit-small true = omega arith
bit-small false = omega arith

pub count-suc : (f : ℕ → Bool) (p : ℕ) → count_below f (suc p) ≡ count_below f p + bit (f p)
unfolding count_below
count-suc f p = refl

pub count-le : (f : ℕ → Bool) (p : ℕ) → count_below f p ≤ p
unfolding count_below
count-le f zero = omega arith
count-le f (suc p) = omega (arith, count-le f p, bit-small (f p))

-- n numbers more
pub count-more : (f : ℕ → Bool) (p n : ℕ) → (count_below f p ≤ count_below f (p + n)) × (count_below f (p + n) ≤ count_below f p + n)
count-more f p zero = rw (add-zero p) (omega arith, omega arith)
count-more f p (suc n) =
    let ih = count-more f p n in
    rw (add-suc p n, count-suc f (p + n)) (omega (arith, ih.0), omega (arith, ih.1, bit-small (f (p + n))))

-- a number that has f is counted past it
pub count_past : (f : ℕ → Bool) (x y : ℕ) → f x ≡ true → x < y → count_below f x < count_below f y
count_past f x y p h =
    let e : suc x + (y - suc x) ≡ y = omega arith in
    let b : bit (f x) ≡ 1 = rw p in
    omega (arith, rw e at (count-more f (suc x) (y - suc x)).0, count-suc f x)

-- two numbers that have f, with as many such numbers below them, are one
pub count-row : (f : ℕ → Bool) (x y : ℕ) → f x ≡ true → f y ≡ true → count_below f x ≡ count_below f y → x ≡ y
count-row f x y p q e =
    ⊎_elim
    (λ h. absurd (omega (arith, count_past f x y p h.1)))
    (λ h. ⊎_elim (λ k. absurd (omega (arith, count_past f y x q k.1))) (λ k. omega (arith, h.1, k.1)) (split-le (suc y) x)) (split-le (suc x) y)
