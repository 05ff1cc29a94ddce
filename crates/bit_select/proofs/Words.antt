-- The digits of a number, and the place of a set one by halves.
use mathlib.Core.Path.{◌≡◌, refl, sym, ap, ◌∙◌}
use mathlib.Core.Bool.{Bool}
use mathlib.Core.Logic.{⊎_elim}
use mathlib.Core.List.{[], ◌∷◌}
use Prim.Native.Nat.{ℕ, zero, suc, ◌+◌, ◌-◌, ◌*◌, ◌/◌, ◌%◌, ◌^◌, ◌≤◌, ◌<◌}
use native.Mathlib.Nat.{add-zero, add-suc, zero-add, div-div-eq-div-mul}
use native.Mathlib.Omega.{arith}
use lib.Count.{ones, ones_in}
use lib.Dec.{eqb}
use lib.Pow.{pow-add, pow-lt}
use Rattle.fields.specs.Counting.{count_below, Test}
use Rattle.fields.proofs.Counting.{count-suc}
use Rattle.fields.proofs.Tests.{split-le}
use Rattle.packed.specs.Bits.{bit_at, Ones}
use Rattle.packed.proofs.Digits.{ones-more, bit-digit, low_digit}
use Rattle.byte_select.specs.Select.{nth_with}
use Rattle.byte_select.proofs.Nth.{nth-is, nth-found}
use Rattle.bit_select.specs.Inner.{digit, Narrowed}

-- ---- counting

-- the same tests count the same
pub count-same : (f g : ℕ → Bool) (n : ℕ) → ((i : ℕ) → i < n → f i ≡ g i) → count_below f n ≡ count_below g n
unfolding count_below
count-same f g zero h = refl
count-same f g (suc n) h = rw (h n (omega arith), count-same f g n (λ i l. h i (omega arith))) refl

count-start : (f : ℕ → Bool) (n : ℕ) → count_below f 0 + n ≡ n
unfolding count_below
count-start f n = zero-add n

-- counted up to a place and on from it
pub count-from : (f g : ℕ → Bool) (a n : ℕ) → ((i : ℕ) → i < n → f (a + i) ≡ g i) → count_below f (a + n) ≡ count_below f a + count_below g n
unfolding count_below
count-from f g a zero h = rw (add-zero a) (omega arith)
count-from f g a (suc n) h =
    rw (add-suc a n, count-suc f (a + n), h n (omega arith), count-from f g a n (λ i l. h i (omega arith))) (omega arith)

-- the one with k below it is the one with left of them from a on
pub nth-from : (f g : ℕ → Bool) (a n end k left : ℕ) → ((i : ℕ) → i < n → f (a + i) ≡ g i) → a + n ≤ end → count_below f a + left ≡ k → left < count_below g n
    → nth_with f end k ≡ a + nth_with g n left
nth-from f g a n end k left h u e m =
    let t = nth-found g left n m in
    let p = nth_with g n left in
    nth-is f k end (a + p)
    (record {
      below = omega (arith, t.below);
      has = h p t.below ∙ t.has;
      before = count-from f g a p (λ i l. h i (omega (arith, t.below))) ∙ omega (arith, t.before, e);
    })

-- ---- digits

-- the power that a shift gives
pub shifted : (h : ℕ) → h ≤ 32 → 1 * 2 ^ h % 18446744073709551616 ≡ 2 ^ h
shifted h l = let b : 2 ^ h < 2 ^ 64 = pow-lt {i = h} {j = 64} (omega arith) in omega (arith, b)

module _ (x : ℕ) where
  -- the set digits below a place are those of the rest by its power
  pub digits-ones : (n : ℕ) → count_below (digit x) n ≡ ones (x % 2 ^ n)
  unfolding count_below digit ones ones_in
  digits-ones zero = let e : x % 1 ≡ 0 = omega arith in rw e refl
  digits-ones (suc n) =
      rw (ones-more x n, digits-ones n, bit-digit (x / 2 ^ n % 2) (omega arith)) refl

  digit-shift : (a i : ℕ) → digit x (a + i) ≡ digit (x / 2 ^ a) i
  unfolding digit
  digit-shift a i = rw (pow-add 2 a i, ← div-div-eq-div-mul x (2 ^ a) (2 ^ i)) refl

  digit-start : (i : ℕ) → digit x (0 + i) ≡ digit x i
  digit-start i = ap (digit x) (zero-add i)

  -- ---- a half: count are the set digits of the lower one, and b is 1 where they are passed

  module _ (left half count : ℕ) (d : Ones (x % 2 ^ half) count) where
    lower : count_below (digit x) half ≡ count
    lower = digits-ones half ∙ sym d.value

    module _ (m : left < count_below (digit x) (half + half)) where
      pub narrow-upper : count ≤ left → Narrowed x left half (x / 2 ^ half) (left - count) half
      narrow-upper h =
          let rest = count-from (digit x) (digit (x / 2 ^ half)) half half (λ i l. digit-shift half i) in
          let inside : left - count < count_below (digit (x / 2 ^ half)) half = omega (arith, rest, lower, m) in
          record {
            same = nth-from (digit x) (digit (x / 2 ^ half)) half half (half + half) left (left - count) (λ i l. digit-shift half i) (omega arith) (omega (arith, lower)) inside;
            inside = inside;
            within = omega arith;
          }

      pub narrow-lower : left < count → Narrowed x left half x left 0
      narrow-lower h =
          let inside : left < count_below (digit x) half = omega (arith, lower) in
          record {
            same = nth-from (digit x) (digit x) 0 half (half + half) left left (λ i l. digit-start i) (omega arith) (count-start (digit x) left) inside;
            inside = inside;
            within = omega arith;
          }

      -- b is 1 where the lower half is passed, else 0
      pub narrow-done : (b : ℕ) → Test count left b → Narrowed x left half (x / 2 ^ (half * b)) (left - count * b) (half * b)
      narrow-done b t = ⊎_elim (λ e. passed e.1 (rw e.0 at t.value)) (λ e. kept e.1 (rw e.0 at t.value)) (split-le count left)
        where
          passed : count ≤ left → b ≡ 1 → Narrowed x left half (x / 2 ^ (half * b)) (left - count * b) (half * b)
          passed h one =
              let p : half * b ≡ half = rw one (omega arith) in
              let q : count * b ≡ count = rw one (omega arith) in
              rw (p, q) (narrow-upper h)

          kept : left < count → b ≡ 0 → Narrowed x left half (x / 2 ^ (half * b)) (left - count * b) (half * b)
          kept h none =
              let p : half * b ≡ 0 = rw none (omega arith) in
              let q : count * b ≡ 0 = rw none (omega arith) in
              let r : x / 1 ≡ x = omega arith in
              let s : left - 0 ≡ left = omega arith in
              rw (p, q, r, s) (narrow-lower h)

  -- ---- the last byte

  byte-digit : (i : ℕ) → i < 8 → digit x i ≡ bit_at (x % 256 ∷ []) i
  unfolding digit bit_at
  byte-digit i h =
      let p : i / 8 ≡ 0 = omega arith in
      let q : i % 8 ≡ i = omega arith in
      let e : x % 256 + 256 * (x / 256) ≡ x = omega arith in
      rw (p, q) (ap (λ (d : ℕ). eqb d 1) (rw e at (low_digit i (x % 256) (x / 256) h)))

  pub byte-done : (left byte : ℕ) → left < count_below (digit x) 8 → byte ≡ x % 256 → (r : ℕ) → r ≡ nth_with (bit_at (byte ∷ [])) 8 left → r ≡ nth_with (digit x) 8 left
  byte-done left byte m e r d =
      let f = bit_at (x % 256 ∷ []) in
      let same = λ (i : ℕ) (l : i < 8). digit-start i ∙ byte-digit i l in
      let t = nth-from (digit x) f 0 8 8 left left same (omega arith) (count-start (digit x) left) (rw (count-same (digit x) f 8 byte-digit) at m) in
      d ∙ rw e (omega (arith, t))
