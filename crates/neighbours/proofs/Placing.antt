-- What stands where n words of a valid list are at most a row: the nearest rows and the first run that shares a row, and one law for each way through the code.
use mathlib.Core.Path.{◌≡◌, refl, sym, ap, ◌∙◌}
use mathlib.Core.Bool.{true, false, cond, true≢false}
use mathlib.Core.Logic.{⊎_elim}
use mathlib.Core.List.{List, [], ◌∷◌}
use Prim.Native.Nat.{ℕ, zero, suc, ◌+◌, ◌-◌, ◌*◌, ◌/◌, ◌%◌, ◌^◌, ◌≤◌, ◌<◌, min, max}
use native.Mathlib.Omega.{arith}
use borrow.Author.Tests.{lt-leb, lt-ltb, le-ltb, ne_eqb, eqb-true}
use lib.Dec.{ltb, eqb, leb-suc-suc}
use lib.ListN.{length, get_or}
use Rattle.std.specs.Prelude.{Some, None}
use Rattle.std.specs.List.{slice_get}
use Rattle.std.proofs.lemmas.Option.{slice_get_past, slice_get-get_or}
use Rattle.fields.specs.Answers.{none, option_of}
use Rattle.fields.proofs.Answers.{option-some, option-none}
use Rattle.fields.specs.Counting.{bit}
use Rattle.fields.specs.Limits.{max_words}
use Rattle.fields.proofs.Tests.{split-le}
use Rattle.run_list.specs.Rows.{upper_bound}
use Rattle.run_list.specs.Places.{place, ended}
use Rattle.run_list.specs.declared.place.Place.{Place}
use Rattle.run_list.proofs.Validity.{fault-accepted, valid-even}
use Rattle.run_list.proofs.Boundaries.{valid-from}
use Rattle.run_list.proofs.Places.{upper_bound-le, has-place, begun-place, ended-place}
use Rattle.run_list.proofs.PlaceLaws.{begun-listed}
use Rattle.run_list.proofs.RowCalls.{rises_next, all_of, none-unlisted}
use Rattle.neighbours.specs.Neighbours.{row_above, row_below_from, row_below, first_shared_from, first_shared}
use Rattle.run_list.specs.Runs.{has, ValidFrom, Valid, fault}

-- ---- at or above

-- of n words: the row itself where n is odd, else the next word, else none
abbrev above_place : List ℕ → ℕ → ℕ → ℕ
above_place ws r n = cond (eqb (n % 2) 1) r (cond (ltb n (length ws)) (get_or ws n 0) none)

above-past : (s e : ℕ) (ws : List ℕ) (r m : ℕ) → above_place (s ∷ e ∷ ws) r (suc (suc m)) ≡ above_place ws r m
above-past s e ws r m =
    let p : suc (suc m) % 2 ≡ m % 2 = omega arith in
    rw (p, leb-suc-suc (suc (suc m)) (suc (length ws)), leb-suc-suc (suc m) (length ws))

above-at : (ws : List ℕ) (lo r : ℕ) → ValidFrom lo ws → row_above ws r ≡ above_place ws r (upper_bound r ws)
above-at [] lo r v = refl
above-at (s ∷ []) lo r v = absurd v
above-at (s ∷ e ∷ ws) lo r v =
    ⊎_elim
    (λ h. rw h.0 (⊎_elim
    (λ k. rw (k.0, le-ltb r e k.1) (above-at ws (suc e) r v.2 ∙ sym (above-past s e ws r (upper_bound r ws))))
    (λ k. rw (k.0, lt-ltb r e k.1) (omega (arith, h.1))) (split-le e r)))
    (λ h. rw (h.0, lt-ltb r e (omega (arith, h.1, v.1)), lt-ltb 0 (suc (suc (length ws))) (omega arith)) (omega (arith, h.1))) (split-le s r)

-- ---- at or below

-- of n words: the row itself where n is odd, else the row before the last word, else what was found before
abbrev below_place : ℕ → List ℕ → ℕ → ℕ → ℕ
below_place found ws r n = cond (eqb (n % 2) 1) r (cond (ltb 0 n) (get_or ws (n - 1) 0 - 1) found)

below-past : (found s e : ℕ) (ws : List ℕ) (r m : ℕ) → below_place found (s ∷ e ∷ ws) r (suc (suc m)) ≡ below_place (e - 1) ws r m
below-past found s e ws r zero = refl
below-past found s e ws r (suc m) =
    let p : suc (suc (suc m)) % 2 ≡ suc m % 2 = omega arith in
    let q : suc (suc (suc m)) - 1 ≡ suc (suc m) = omega arith in
    let t : suc m - 1 ≡ m = omega arith in
    rw (p, q, t, lt-ltb 0 (suc (suc (suc m))) (omega arith), lt-ltb 0 (suc m) (omega arith))

-- runs that start above the row leave what was found
below-later : (found : ℕ) (ws : List ℕ) (lo r : ℕ) → ValidFrom lo ws → r < lo → row_below_from found ws r ≡ found
below-later found [] lo r v h = refl
below-later found (s ∷ []) lo r v h = refl
below-later found (s ∷ e ∷ ws) lo r v h = rw (lt-leb s r (omega (arith, v.0))) (below-later found ws (suc e) r v.2 (omega (arith, v.0, v.1)))

below-at : (found : ℕ) (ws : List ℕ) (lo r : ℕ) → ValidFrom lo ws → row_below_from found ws r ≡ below_place found ws r (upper_bound r ws)
below-at found [] lo r v = refl
below-at found (s ∷ []) lo r v = absurd v
below-at found (s ∷ e ∷ ws) lo r v =
    ⊎_elim
    (λ h. rw h.0 (⊎_elim
    (λ k. let m : min (e - 1) r ≡ e - 1 = omega (arith, k.1) in
    rw (k.0, m) (below-at (e - 1) ws (suc e) r v.2 ∙ sym (below-past found s e ws r (upper_bound r ws))))
    (λ k. let m : min (e - 1) r ≡ r = omega (arith, k.1) in rw (k.0, m) (below-later r ws (suc e) r v.2 (omega (arith, k.1)))) (split-le e r)))
    (λ h. rw h.0 (below-later found ws (suc e) r v.2 (omega (arith, h.1, v.1)))) (split-le s r)

-- ---- the first run that shares a row

-- of n words at most the range's start: run n / 2 where it starts below the range's end, else none
abbrev shared_place : ℕ → List ℕ → ℕ → ℕ → ℕ
shared_place k ws b n = cond (ltb (2 * (n / 2)) (length ws)) (cond (ltb (get_or ws (2 * (n / 2)) 0) b) (k + n / 2) none) none

shared-past : (k s e : ℕ) (ws : List ℕ) (b m : ℕ) → shared_place k (s ∷ e ∷ ws) b (suc (suc m)) ≡ shared_place (suc k) ws b m
shared-past k s e ws b m =
    let p : 2 * (suc (suc m) / 2) ≡ suc (suc (2 * (m / 2))) = omega arith in
    let q : k + suc (suc m) / 2 ≡ suc k + m / 2 = omega arith in
    rw (p, q, leb-suc-suc (suc (suc (2 * (m / 2)))) (suc (length ws)), leb-suc-suc (suc (2 * (m / 2))) (length ws))

-- runs that start at the range's end or above share no row with it
shared-later : (k : ℕ) (ws : List ℕ) (lo a b : ℕ) → ValidFrom lo ws → b ≤ lo → first_shared_from k ws a b ≡ none
shared-later k [] lo a b v h = refl
shared-later k (s ∷ []) lo a b v h = refl
shared-later k (s ∷ e ∷ ws) lo a b v h =
    rw (le-ltb (max s a) (min e b) (omega (arith, v.0))) (shared-later (suc k) ws (suc e) a b v.2 (omega (arith, v.0, v.1)))

shared-at : (k : ℕ) (ws : List ℕ) (lo a b : ℕ) → ValidFrom lo ws → a < b → first_shared_from k ws a b ≡ shared_place k ws b (upper_bound a ws)
shared-at k [] lo a b v h = refl
shared-at k (s ∷ []) lo a b v h = absurd v
shared-at k (s ∷ e ∷ ws) lo a b v h =
    ⊎_elim
    (λ g. rw g.0 (⊎_elim
    (λ i. rw (i.0, le-ltb (max s a) (min e b) (omega (arith, i.1)))
    (shared-at (suc k) ws (suc e) a b v.2 h ∙ sym (shared-past k s e ws b (upper_bound a ws))))
    (λ i. rw (i.0, lt-ltb (max s a) (min e b) (omega (arith, g.1, i.1, v.1)), lt-ltb s b (omega (arith, g.1)), lt-ltb 0 (suc (suc (length ws))) (omega arith)) (omega arith)) (split-le e a)))
    (λ g. rw g.0 (⊎_elim
    (λ i. rw (lt-ltb 0 (suc (suc (length ws))) (omega arith), le-ltb s b i.1, le-ltb (max s a) (min e b) (omega (arith, i.1))) (shared-later (suc k) ws (suc e) a b v.2 (omega (arith, i.1, v.1))))
    (λ i. rw (lt-ltb 0 (suc (suc (length ws))) (omega arith), lt-ltb s b i.1, lt-ltb (max s a) (min e b) (omega (arith, i.1, g.1, v.1))) (omega arith)) (split-le b s))) (split-le s a)

-- ---- the ways through the code, by what the search found. No row and no number of a run is the mark for none

module _ (ws : List ℕ) (small : (i : ℕ) → get_or ws i 0 < 2 ^ 64) (r : ℕ) (p : Place) (right : fault ws ≡ 0) (placed : p ≡ place ws r) where
  abbrev n : ℕ
  n = upper_bound r ws

  valid : Valid ws
  valid = (fault-accepted ws right).valid

  even : length ws % 2 ≡ 0
  even = valid-even ws 0 valid

  within : n ≤ length ws
  within = upper_bound-le r ws

  rises : (i : ℕ) → i + 1 < length ws → get_or ws i 0 < get_or ws (i + 1) 0
  rises i = rises_next 0 ws i (valid-from ws 0 valid)

  listed_is : p.listed ≡ has ws r
  listed_is = ap (λ (q : Place). q.listed) placed

  begun-is : p.begun ≡ n / 2 + n % 2
  begun-is = ap (λ (q : Place). q.begun) placed ∙ begun-place ws r valid

  -- so that twice the number fits
  pub begun-few : 2 * p.begun ≤ max_words
  begun-few = omega (arith, begun-is, within, even, (fault-accepted ws right).limit)

  pub begun-some : bit p.listed ≤ p.begun
  begun-some = rw (listed_is, ap (λ (q : Place). q.begun) placed) (begun-listed ws r valid)

  -- the words at most the row are those of the runs before it, and the start of its run, if it is listed
  in-run : p.listed ≡ true → n % 2 ≡ 1
  in-run l = eqb-true (n % 2) 1 (sym (has-place ws r valid) ∙ sym listed_is ∙ l)

  not-in-run : p.listed ≡ false → n % 2 ≡ 1 → ⊥
  not-in-run l o = true≢false (sym (listed_is ∙ has-place ws r valid ∙ rw o) ∙ l)

  in-gap : p.listed ≡ false → 2 * p.begun ≡ n
  in-gap l = omega (arith, begun-is, not-in-run l)

  -- a row in a run is listed, and the mark for none never is
  some-row : p.listed ≡ true → r ≡ none → ⊥
  some-row l z = true≢false (sym (sym listed_is ∙ l) ∙ rw z (none-unlisted ws (all_of (λ w. w < 2 ^ 64) ws small)))

  above-is : row_above ws r ≡ above_place ws r n
  above-is = above-at ws 0 r valid

  pub above-inside : p.listed ≡ true → Some r ≡ option_of (row_above ws r)
  above-inside l = option-some r _ (sym (above-is ∙ rw (in-run l))) (some-row l)

  above-next : p.listed ≡ false → n < length ws → Some (get_or ws n 0) ≡ option_of (row_above ws r)
  above-next l h =
      option-some _ _ (sym (above-is ∙ rw (ne_eqb (n % 2) 1 (not-in-run l), lt-ltb n (length ws) h)))
      (λ z. omega (arith, z, small (n + 1), rises n (omega (arith, h, even, not-in-run l))))

  above-none : p.listed ≡ false → length ws ≤ n → None ≡ option_of (row_above ws r)
  above-none l h = option-none _ (sym (above-is ∙ rw (ne_eqb (n % 2) 1 (not-in-run l), le-ltb n (length ws) h)))

  pub above-gap : p.listed ≡ false → slice_get ws (2 * p.begun) ≡ option_of (row_above ws r)
  above-gap l =
      rw (in-gap l)
      (⊎_elim
      (λ h. slice_get_past ws n h.1 ∙ above-none l h.1)
      (λ h. slice_get-get_or ws n 0 h.1 ∙ above-next l h.1) (split-le (length ws) n))

  below-is : row_below ws r ≡ below_place none ws r n
  below-is = below-at none ws 0 r valid

  pub below-inside : p.listed ≡ true → Some r ≡ option_of (row_below ws r)
  below-inside l = option-some r _ (sym (below-is ∙ rw (in-run l))) (some-row l)

  pub below-none : p.begun ≡ 0 → None ≡ option_of (row_below ws r)
  below-none z = let e : n ≡ 0 = omega (arith, begun-is, z) in option-none _ (sym (below-is ∙ rw e refl))

  module _ (h : p.begun ≡ 0 → ⊥) (l : p.listed ≡ false) where
    last : 2 * p.begun - 1 ≡ n - 1
    last = omega (arith, in-gap l)

    pub last-within : 2 * p.begun - 1 < length ws
    last-within = omega (arith, within, in-gap l, h)

    -- the word before an even place is an end, and so no first row
    positive : 1 ≤ get_or ws (n - 1) 0
    positive =
        let e : n - 1 ≡ n - 2 + 1 = omega (arith, in-gap l, h) in
        rw e (omega (arith, rises (n - 2) (omega (arith, in-gap l, h, within))))

    pub last-positive : 1 ≤ get_or ws (2 * p.begun - 1) 0
    last-positive = rw last positive

    pub below-gap : Some (get_or ws (2 * p.begun - 1) 0 - 1) ≡ option_of (row_below ws r)
    below-gap =
        let o : n % 2 ≡ 0 = omega (arith, in-gap l) in
        let z : 0 < n = omega (arith, in-gap l, h) in
        rw last (option-some _ _ (sym (below-is ∙ rw (o, lt-ltb 0 n z) refl)) (λ e. omega (arith, e, small (n - 1), positive)))

  module _ (b : ℕ) (g : r < b) (k : ℕ) (before : k ≡ ended p) where
    half : k ≡ n / 2
    half = before ∙ ap ended placed ∙ ended-place ws r valid

    shared-is : first_shared ws r b ≡ shared_place 0 ws b n
    shared-is = shared-at 0 ws 0 r b valid g

    pub shared-here : 2 * k < length ws → get_or ws (2 * k) 0 < b → Some k ≡ option_of (first_shared ws r b)
    shared-here =
        rw half
        (λ h i. option-some _ _ (sym (shared-is ∙ rw (lt-ltb (2 * (n / 2)) (length ws) h, lt-ltb (get_or ws (2 * (n / 2)) 0) b i) (omega arith)))
        (λ e. omega (arith, e, (fault-accepted ws right).limit, within)))

    pub shared-above : 2 * k < length ws → b ≤ get_or ws (2 * k) 0 → None ≡ option_of (first_shared ws r b)
    shared-above = rw half (λ h i. option-none _ (sym (shared-is ∙ rw (lt-ltb (2 * (n / 2)) (length ws) h, le-ltb (get_or ws (2 * (n / 2)) 0) b i))))

    pub shared-none : length ws ≤ 2 * k → None ≡ option_of (first_shared ws r b)
    shared-none = rw half (λ h. option-none _ (sym (shared-is ∙ rw (le-ltb (2 * (n / 2)) (length ws) h))))
