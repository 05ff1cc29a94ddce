-- The inputs' refusals, one law for each way through the code, and what an accepted input is.
use mathlib.Core.Bool.{false, true≢false}
use mathlib.Core.Path.{◌≡◌, refl, sym, ◌∙◌}
use mathlib.Core.Logic.{⊎_elim}
use mathlib.Core.List.{List, [], ◌∷◌}
use Prim.Native.Nat.{ℕ, zero, suc, ◌+◌, ◌*◌, ◌/◌, ◌%◌, ◌^◌, ◌≤◌, ◌<◌}
use native.Mathlib.Numerals.{add-one}
use native.Mathlib.Omega.{arith}
use borrow.Author.Tests.{lt-ltb, le-ltb, eq-eqb, ne_eqb, ltb-false, eqb-false}
use lib.Dec.{ltb, eqb}
use Rattle.std.specs.List.{All}
use Rattle.std.proofs.lemmas.List.{get_or_default}
use lib.ListN.{length, drop, get_or, drop_of_length-le}
use lib.Seq.{drop-cons}
use Rattle.std.specs.Simd.{first_chunks}
use mir.Val.{Fits}
use mir.Syntax.{w64}
use Rattle.fields.specs.Refusal.{when, ◌then◌}
use Rattle.fields.proofs.Refusals.{front-none, rest-none, when-none}
use Rattle.run_list.specs.Runs.{odd}
use Rattle.fields.proofs.Tests.{split-eq}
use Rattle.fields.specs.Limits.{too_long, max_words, max_items}
use Rattle.fields.specs.Answers.{none}
use Rattle.fields.proofs.Limits.{none-long}
use Rattle.run_list.specs.Rising.{elem}
use Rattle.bitmap_build.specs.Build.{ranges, rows_fault, ranges_fault}
use Rattle.bitmap_build.specs.Joining.{pairs}

-- ---- rows as ranges

pub ranges-length : (rows : List ℕ) → length (ranges rows) ≡ length rows * 2
ranges-length [] = refl
ranges-length (r ∷ rows) = omega (arith, ranges-length rows)

-- ---- items as ranges

module _ {A : Type 0} (start end : A → ℕ) where
  pub pairs-length : (xs : List A) → length (pairs start end xs) ≡ length xs * 2
  pairs-length [] = refl
  pairs-length (x ∷ xs) = omega (arith, pairs-length xs)

  pub pairs_start : (xs : List A) (i : ℕ) (d : A) → i < length xs → get_or (pairs start end xs) (2 * i) 0 ≡ start (get_or xs i d)
  pairs_start [] i d h = absurd (omega arith)
  pairs_start (x ∷ xs) zero d h = refl
  pairs_start (x ∷ xs) (suc i) d h =
      let e : 2 * suc i ≡ suc (suc (2 * i)) = omega arith in rw e (pairs_start xs i d (omega arith))

  pub pairs-end : (xs : List A) (i : ℕ) (d : A) → i < length xs → get_or (pairs start end xs) (2 * i + 1) 0 ≡ end (get_or xs i d)
  pairs-end [] i d h = absurd (omega arith)
  pairs-end (x ∷ xs) zero d h = refl
  pairs-end (x ∷ xs) (suc i) d h =
      let e : 2 * suc i + 1 ≡ suc (suc (2 * i + 1)) = omega arith in rw e (pairs-end xs i d (omega arith))

pub pairs-rows : (rows : List ℕ) → pairs (λ r. r) (λ r. r + 1) rows ≡ ranges rows
pairs-rows [] = refl
pairs-rows (r ∷ rows) = rw (pairs-rows rows, add-one r)

pub pairs-chunks : (ws : List ℕ) → length ws % 2 ≡ 0 → pairs (λ p. get_or p 0 0) (λ p. get_or p 1 0) (first_chunks 2 (length ws / 2) ws) ≡ ws
pairs-chunks [] h = refl
pairs-chunks (s ∷ []) h = absurd (omega arith)
pairs-chunks (s ∷ e ∷ ws) h =
    let n : length (s ∷ e ∷ ws) / 2 ≡ suc (length ws / 2) = omega arith in
    rw (n, pairs-chunks ws (omega arith))

-- ---- rows

-- the rows before i are rows
pub record Rows (rows : List ℕ) (i : ℕ) : Type 0 where
  pub short : length rows ≤ max_items
  pub rest : elem none rows ≡ elem none (drop i rows)

module _ (rows : List ℕ) where
  pub rows_long : max_items < length rows → 1 ≡ rows_fault rows
  unfolding rows_fault too_long when ◌then◌
  rows_long h = rw (lt-ltb max_items (length rows) h)

  module _ (i : ℕ) (m : Rows rows i) where
    pub rows-found : i < length rows → get_or rows i 0 ≡ none → 7 ≡ rows_fault rows
    unfolding rows_fault too_long when ◌then◌
    rows-found h k =
        rw (le-ltb max_items (length rows) m.short, m.rest, drop-cons rows i 0 h, eq-eqb (get_or rows i 0) none k)

    pub rows_next : i < length rows → (get_or rows i 0 ≡ none → ⊥) → Rows rows (i + 1)
    rows_next h k =
        record {
          short = m.short;
          rest = m.rest ∙ rw (drop-cons rows i 0 h, ne_eqb (get_or rows i 0) none k, add-one);
        }

    pub rows_end : length rows ≤ i → 0 ≡ rows_fault rows
    unfolding rows_fault too_long when ◌then◌
    rows_end h = rw (le-ltb max_items (length rows) m.short, m.rest, drop_of_length-le rows {i = i} h)

  module _ (e : rows_fault rows ≡ 0) where
    pub rows_few : length rows ≤ max_items
    unfolding rows_fault
    rows_few = none-long max_items rows (front-none _ _ e)

    pub rows-real : elem none rows ≡ false
    unfolding rows_fault
    rows-real = when-none (elem none rows) 6 (rest-none _ _ e)

not-elem : (x : ℕ) (ws : List ℕ) (i d : ℕ) → elem x ws ≡ false → i < length ws → get_or ws i d ≡ x → ⊥
not-elem x [] i d f h e = absurd (omega arith)
not-elem x (y ∷ ws) zero d f h e = true≢false (sym (rw (eq-eqb y x e)) ∙ f)
not-elem x (y ∷ ws) (suc i) d f h e =
    ⊎_elim (λ k. true≢false (sym (rw k.0) ∙ f)) (λ k. not-elem x ws i d (rw k.0 at f) (omega arith) e) (split-eq y x)

-- a row has a next one
pub row_fits : (rows : List ℕ) → elem none rows ≡ false → ((j : ℕ) → Fits w64 (get_or rows j 0)) → All (λ r. r + 1 < 2 ^ 64) rows
row_fits rows f k i d h =
    let e : get_or rows i d ≡ get_or rows i 0 = get_or_default rows i d 0 h in omega (arith, not-elem none rows i d f h, k i, e)

-- ---- ranges

module _ (ws : List ℕ) where
  pub ranges-long : max_words < length ws → 1 ≡ ranges_fault ws
  unfolding ranges_fault too_long when ◌then◌
  ranges-long h = rw (lt-ltb max_words (length ws) h)

  pub ranges-odd : length ws ≤ max_words → length ws % 2 ≡ 1 → 6 ≡ ranges_fault ws
  unfolding ranges_fault too_long odd when ◌then◌
  ranges-odd h k = rw (le-ltb max_words (length ws) h, eq-eqb (length ws % 2) 1 k)

  pub ranges-good : length ws ≤ max_words → (length ws % 2 ≡ 1 → ⊥) → 0 ≡ ranges_fault ws
  unfolding ranges_fault too_long odd when ◌then◌
  ranges-good h k = rw (le-ltb max_words (length ws) h, ne_eqb (length ws % 2) 1 k)

  module _ (e : ranges_fault ws ≡ 0) where
    pub ranges-few : length ws ≤ max_words
    unfolding ranges_fault too_long
    ranges-few = ltb-false max_words (length ws) (when-none (ltb max_words (length ws)) 0 (front-none _ _ e))

    pub ranges-even : length ws % 2 ≡ 0
    unfolding ranges_fault odd
    ranges-even = let o = eqb-false (length ws % 2) 1 (when-none (eqb (length ws % 2) 1) 5 (rest-none _ _ e)) in omega (arith, o)
