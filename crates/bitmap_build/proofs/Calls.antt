-- The two calls and what they lean on, one law for each way through the code: words that rise, a run list at the front, cleared words, the answer.
use mathlib.Core.Bool.{Bool, true, false, true≢false}
use mathlib.Core.Path.{◌≡◌, refl, sym, ap, ◌∙◌}
use mathlib.Core.List.{List, [], ◌∷◌, ◌++◌}
use Prim.Native.Nat.{ℕ, suc, ◌+◌, ◌*◌, ◌-◌, ◌/◌, ◌%◌, ◌^◌, ◌≤◌, ◌<◌}
use native.Mathlib.Nat.{le_refl}
use native.Mathlib.Omega.{arith}
use borrow.Author.Tests.{lt-ltb, le-ltb, ltb-true}
use lib.Dec.{ltb}
use mir.Val.{Fits}
use mir.Syntax.{w64}
use Rattle.std.specs.List.{All, IsAllAdjacentAnswer}
use Rattle.std.specs.Simd.{first_chunks}
use lib.ListN.{length, take, drop, get_or, length-append, length-drop}
use lib.Seq.{drop-drop, drop_at, take-append-le, take-length, length-take-le}
use Rattle.fields.specs.Refusal.{when, ◌then◌, refusal_number}
use Rattle.fields.specs.declared.outcome.Refusal.{Refusal}
use Rattle.fields.specs.Answers.{none, zeroed, short, Gives}
use Rattle.fields.specs.declared.outcome.Answer.{Answer}
use Rattle.fields.proofs.Refusals.{then-none, found_first, found-next, refusal_some}
use Rattle.fields.proofs.Answers.{gives-refused}
use Rattle.run_list.specs.Runs.{ValidFrom}
use Rattle.run_list.specs.Rising.{From, Rising}
use Rattle.bitmap_build.specs.Build.{joined, ranges, rows_fault, ranges_fault, Built}
use Rattle.bitmap_build.specs.Sorting.{InOrder}
use Rattle.bitmap_build.specs.Joining.{pairs, Gathered, Normal}
use Rattle.bitmap_build.proofs.Built.{joined-unique, joined_same, joined_length}
use Rattle.fields.proofs.Answers.{after-onward, gives-cleared}
use Rattle.fields.proofs.Clearing.{zeroed-is}
use Rattle.bitmap_build.proofs.Inputs.{ranges-length, rows-real, row_fits, ranges-even, pairs-rows, pairs-chunks, pairs-end}

-- ---- words that rise

adjacent-from : (lo : ℕ) (ws : List ℕ) → (0 < length ws → lo ≤ get_or ws 0 0) → ((k : ℕ) → k + 1 < length ws → true ≡ ltb (get_or ws k 0) (get_or ws (k + 1) 0)) → From lo ws
adjacent-from lo [] low h = tt
adjacent-from lo (w ∷ ws) low h =
    (low (omega arith), adjacent-from (suc w) ws (λ k. ltb-true w (get_or ws 0 0) (sym (h 0 (omega arith)))) (λ k l. let n = h (suc k) (omega arith) in let i : suc k + 1 ≡ suc (k + 1) = omega arith in rw i at n))

-- each word is below the next
pub rising-answer : (ws : List ℕ) (t : Bool) → IsAllAdjacentAnswer (λ x y b. b ≡ ltb x y) ws t → t ≡ true → Rising ws
rising-answer ws true a e = adjacent-from 0 ws (λ k. omega arith) (λ k l. a k 0 l)
rising-answer ws false a e = absurd (true≢false (sym e))

-- ---- a run list at the front

rising-valid : (lo : ℕ) (ws : List ℕ) → length ws % 2 ≡ 0 → From lo ws → ValidFrom lo ws
rising-valid lo [] h f = tt
rising-valid lo (s ∷ []) h f = absurd (omega arith)
rising-valid lo (s ∷ e ∷ ws) h f = (f.0, f.1.0, rising-valid (suc e) ws (omega arith) f.1.1)

pub normal-rises : (s : List ℕ) → length s % 2 ≡ 0 → Rising s → Normal s (length s) s
normal-rises s p f = record { valid = rw (take-length s) (rising-valid 0 s p f); same = λ r. rw (take-length s); inside = le_refl _ }

module _ (s s₁ : List ℕ) (p : InOrder 0 none s s₁) where
  pub normal-sorted : length s₁ ≡ length s → (n : ℕ) (s₂ : List ℕ) → Normal s₁ n s₂ → Normal s n s₂
  normal-sorted l n s₂ j = record { valid = j.valid; same = λ r. j.same r ∙ p.same r; inside = omega (arith, j.inside) }

-- ---- the pairs in the first m words as an answer

module _ (out : List ℕ) (m need : ℕ) (h : m ≤ need) (fits : need ≤ length out) where
  pub finish-size : m ≡ length (take m out)
  finish-size = sym (length-take-le m out (omega arith))

  module _ (n : ℕ) (part : List ℕ) (l : length part ≡ length (take m out)) (j : Normal (take m out) n part) where
    size : length part ≡ m
    size = l ∙ sym finish-size

    finish-from : n ≤ need
    finish-from = omega (arith, j.inside, finish-size)

    finish-to : need ≤ length (part ++ drop m out)
    finish-to = simp (length-append, length-drop) (omega (arith, size))

    unchanged : drop need (part ++ drop m out) ≡ drop need out
    unchanged =
        let e : need ≡ m + (need - m) = omega arith in
        rw e (sym (drop-drop (need - m) m (part ++ drop m out)) ∙ ap (drop (need - m)) (drop_at part (drop m out) m size) ∙ drop-drop (need - m) m out)

    pub finish-done : (out' : List ℕ) → out' ≡ zeroed n need (part ++ drop m out)
        → Gives 0 (joined (take m out)) need out (record { refusal = 0; len = n }) out'
    finish-done out' w =
        let list = joined-unique (take m out) (take n part) j.valid j.same in
        let front : take n (part ++ drop m out) ≡ joined (take m out) = take-append-le n part (drop m out) (omega (arith, j.inside)) ∙ list in
        let number : n ≡ length (joined (take m out)) = sym (length-take-le n part (omega (arith, j.inside))) ∙ ap length list in
        gives-cleared (joined (take m out)) need (omega (arith, finish-from)) 0 out refl n out' number (w ∙ zeroed-is (part ++ drop m out) n need finish-from finish-to ∙ rw (front, unchanged))

-- ---- the answers of the calls

module _ (f : ℕ) (pairs before : List ℕ) where
  pub built-refused : (e : Refusal) → refusal_number e ≡ f → Built f pairs before (record { refusal = refusal_number e; len = 0 }) before
  built-refused e is = gives-refused _ (joined pairs) (length pairs) before (refusal_number e) (found_first f (short (length pairs) (length before)) (refusal_number e) is (refusal_some e)) (refusal_some e)

  module _ (z : 0 ≡ f) (need : ℕ) (is : need ≡ length pairs) where
    pub built-full : length before < need → Built f pairs before (record { refusal = 10; len = 0 }) before
    unfolding short when
    built-full h =
        gives-refused _ (joined pairs) (length pairs) before 10 (found-next f (short (length pairs) (length before)) 0 10 z refl (rw (lt-ltb (length before) (length pairs) (omega arith)))) (λ k. absurd (omega arith))

    pub built-done : need ≤ length before → (m : ℕ) (out : List ℕ) → Gathered pairs need before m out → (r : Answer) (out' : List ℕ)
        → Gives 0 (joined (take m out)) need out r out' → Built f pairs before r out'
    unfolding short when
    built-done h m out w r out' d =
        let none : (f then short (length pairs) (length before)) ≡ 0 =
        then-none f (short (length pairs) (length before)) (sym z) ∙ rw (le-ltb (length before) (length pairs) (omega arith)) in
        let list : joined (take m out) ≡ joined pairs = joined_same (take m out) pairs w.same in
        rw (none, ← list, ← is) (record {
          refusal = d.refusal;
          len = d.len;
          output = d.output ∙ after-onward (joined (take m out)) need (rw list (omega (arith, joined_length pairs))) out before w.later;
        })

module _ (rows : List ℕ) (z : 0 ≡ rows_fault rows) where
  pub rows-fit : ((j : ℕ) → Fits w64 (get_or rows j 0)) → All (λ r. r + 1 < 2 ^ 64) rows
  rows-fit = row_fits rows (rows-real rows (sym z))

  pub rows-full : (out : List ℕ) → length out < length rows * 2 → Built (rows_fault rows) (ranges rows) out (record { refusal = 10; len = 0 }) out
  rows-full out h = built-full (rows_fault rows) (ranges rows) out z (length rows * 2) (sym (ranges-length rows)) h

  pub rows-done : (before : List ℕ) → length rows * 2 ≤ length before → (m : ℕ) (out : List ℕ)
      → Gathered (pairs (λ r. r) (λ r. r + 1) rows) (length rows * 2) before m out → (r : Answer) (out' : List ℕ)
      → Gives 0 (joined (take m out)) (length rows * 2) out r out' → Built (rows_fault rows) (ranges rows) before r out'
  rows-done before h m out w r out' g =
      built-done (rows_fault rows) (ranges rows) before z (length rows * 2) (sym (ranges-length rows)) h m out (rw (pairs-rows rows) at w) r out' g

module _ (ws : List ℕ) (z : 0 ≡ ranges_fault ws) where
  pub ranges-full : (out : List ℕ) → length out < length ws → Built (ranges_fault ws) ws out (record { refusal = 10; len = 0 }) out
  ranges-full out h = built-full (ranges_fault ws) ws out z (length ws) refl h

  module _ (items : List (List ℕ)) (are : items ≡ first_chunks 2 (length ws / 2) ws) (number : length items ≡ length ws / 2) where
    whole : pairs (λ p. get_or p 0 0) (λ p. get_or p 1 0) items ≡ ws
    whole = rw are (pairs-chunks ws (ranges-even ws (sym z)))

    twice : length items * 2 ≡ length ws
    twice = omega (arith, number, ranges-even ws (sym z))

    pub ranges-fit : ((j : ℕ) → Fits w64 (get_or ws j 0)) → All (λ p. get_or p 1 0 < 2 ^ 64) items
    ranges-fit f k d h =
        let e : get_or ws (2 * k + 1) 0 ≡ get_or (get_or items k d) 1 0 =
        rw whole at (pairs-end (λ (p : List ℕ). get_or p 0 0) (λ (p : List ℕ). get_or p 1 0) items k d h) in
        omega (arith, e, f (2 * k + 1))

    pub ranges-done : (before : List ℕ) → length ws ≤ length before → (m : ℕ) (out : List ℕ)
        → Gathered (pairs (λ p. get_or p 0 0) (λ p. get_or p 1 0) items) (length items * 2) before m out → (r : Answer) (out' : List ℕ)
        → Gives 0 (joined (take m out)) (length ws) out r out' → Built (ranges_fault ws) ws before r out'
    ranges-done before h m out w r out' g = built-done (ranges_fault ws) ws before z (length ws) refl h m out (rw (whole, twice) at w) r out' g
