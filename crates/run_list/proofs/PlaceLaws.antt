-- What a row's place in a valid list says of its runs: which of them start at or below the row, and which run or gap the row is in.
use mathlib.Core.Path.{◌≡◌, sym, ◌∙◌}
use mathlib.Core.Bool.{true, false, true≢false}
use mathlib.Core.Logic.{⊎_elim}
use mathlib.Core.List.{List}
use Prim.Native.Nat.{ℕ, zero, suc, ◌+◌, ◌-◌, ◌*◌, ◌/◌, ◌%◌, ◌≤◌, ◌<◌}
use native.Mathlib.Omega.{arith}
use borrow.Author.Tests.{eqb-true}
use lib.Dec.{eqb}
use lib.ListN.{length, get_or}
use Rattle.fields.specs.Counting.{bit}
use Rattle.fields.proofs.Tests.{split-le}
use Rattle.run_list.specs.Runs.{has, Valid}
use Rattle.run_list.specs.Rows.{upper_bound}
use Rattle.run_list.specs.Places.{begun}
use Rattle.run_list.specs.Meaning.{InGap, InRun}
use Rattle.run_list.proofs.Validity.{valid-even}
use Rattle.run_list.proofs.Boundaries.{valid-from}
use Rattle.run_list.proofs.Places.{upper_bound-le, upper_bound-above, upper_bound-front, has-place, begun-place}
use Rattle.run_list.proofs.Searching.{NonDecreasing, rising-nondecreasing, upper_bound-next}

module _ (ws : List ℕ) (r : ℕ) (v : Valid ws) where
  abbrev n : ℕ
  n = upper_bound r ws

  even : length ws % 2 ≡ 0
  even = valid-even ws 0 v

  within : n ≤ length ws
  within = upper_bound-le r ws

  steady : NonDecreasing ws
  steady = rising-nondecreasing 0 ws (valid-from ws 0 v)

  -- a word from place n on is above the row
  past : (i : ℕ) → n ≤ i → i < length ws → r < get_or ws i 0
  past i h l = omega (arith, upper_bound-next r ws (omega (arith, h, l)), steady n i h l)

  -- ---- which runs have begun

  pub begun-all : begun ws r ≤ length ws / 2
  begun-all = omega (arith, begun-place ws r v, within, even)

  -- a listed row has its run among them
  pub begun-listed : bit (has ws r) ≤ begun ws r
  begun-listed = rw (has-place ws r v, begun-place ws r v) (at-most (n % 2) (omega arith))
    where
      at-most : (m : ℕ) → m < 2 → bit (eqb m 1) ≤ n / 2 + m
      at-most zero h = omega arith
      at-most (suc m) h = let z : m ≡ 0 = omega arith in rw z (omega arith)

  -- "start is at or below the row": so it is for the runs before the number
  pub begun-front : (i : ℕ) → i < begun ws r → get_or ws (2 * i) 0 ≤ r
  begun-front i h = upper_bound-front r ws (2 * i) (omega (arith, h, begun-place ws r v))

  -- and for no other
  pub begun-past : (i : ℕ) → begun ws r ≤ i → i < length ws / 2 → r < get_or ws (2 * i) 0
  begun-past i h l = past (2 * i) (omega (arith, h, begun-place ws r v)) (omega (arith, l))

  -- ---- which run or gap the row is in

  odd : has ws r ≡ true → n % 2 ≡ 1
  odd h = eqb-true (n % 2) 1 (sym (has-place ws r v) ∙ h)

  pairs : has ws r ≡ false → n % 2 ≡ 0
  pairs h = ⊎_elim (λ k. omega (arith, k.1)) (λ k. absurd (true≢false (sym (has-place ws r v ∙ rw (one k.1)) ∙ h))) (split-le (n % 2) 0)
    where
      one : 0 < n % 2 → n % 2 ≡ 1
      one k = omega (arith, k)

  -- "which gap a missing bale falls in": it lies between run number - 1 and run number
  pub missing-gap : has ws r ≡ false → InGap ws r (begun ws r)
  missing-gap h =
      let e : 2 * begun ws r ≡ n = omega (arith, begun-place ws r v, pairs h) in
      record {
        before = λ k. upper_bound-front r ws (2 * (begun ws r - 1) + 1) (omega (arith, e, k));
        after = λ k. past (2 * begun ws r) (omega (arith, e)) (omega (arith, k));
      }

  pub listed-run : has ws r ≡ true → InRun ws r (begun ws r)
  listed-run h =
      let e : 2 * (begun ws r - 1) + 1 ≡ n = omega (arith, begun-place ws r v, odd h) in
      let l : n < length ws = omega (arith, within, even, odd h) in
      record {
        some = omega (arith, begun-place ws r v, odd h);
        within = begun-all;
        start = upper_bound-front r ws (2 * (begun ws r - 1)) (omega (arith, e));
        end = past (2 * (begun ws r - 1) + 1) (omega (arith, e)) (omega (arith, e, l));
      }

  -- the words before place m are at most the row, and the others are not
  placed : (m : ℕ) → m ≤ length ws → (1 ≤ m → get_or ws (m - 1) 0 ≤ r) → (m < length ws → r < get_or ws m 0) → n ≡ m
  placed m l f g =
      ⊎_elim
      (λ k. ⊎_elim (λ j. omega (arith, k.1, j.1)) (λ j. absurd (omega (arith, past (m - 1) (omega (arith, j.1)) (omega (arith, j.1, l)), f (omega (arith, j.1))))) (split-le m n))
      (λ k. absurd (omega (arith, k.1, within, upper_bound-above r ws m (g (omega (arith, k.1, within)))))) (split-le n m)

  -- a row between run m - 1 and run m is missing, and m runs have begun
  pub gap-missing : (m : ℕ) → m ≤ length ws / 2 → InGap ws r m → (has ws r ≡ false) × (begun ws r ≡ m)
  gap-missing m l i =
      let e : n ≡ 2 * m = placed (2 * m) (omega (arith, l)) (λ k. let d : 2 * m - 1 ≡ 2 * (m - 1) + 1 = omega (arith, k) in rw d (i.before (omega (arith, k)))) (λ k. i.after (omega (arith, k, even))) in
      let z : n % 2 ≡ 0 = omega (arith, e) in
      (has-place ws r v ∙ rw z, omega (arith, begun-place ws r v, e))

  -- a row in run m - 1 is listed, and m runs have begun
  pub run-listed : (m : ℕ) → InRun ws r m → (has ws r ≡ true) × (begun ws r ≡ m)
  run-listed m i =
      let e : n ≡ 2 * (m - 1) + 1 = placed (2 * (m - 1) + 1) (omega (arith, i.within, i.some)) (λ k. let d : 2 * (m - 1) + 1 - 1 ≡ 2 * (m - 1) = omega arith in rw d i.start) (λ k. i.end) in
      let z : n % 2 ≡ 1 = omega (arith, e) in
      (has-place ws r v ∙ rw z, omega (arith, begun-place ws r v, e, i.some))
