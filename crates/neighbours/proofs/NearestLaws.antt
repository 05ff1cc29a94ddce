-- What the answers mean: the nearest listed rows, the first run that shares a row, and none exactly where there is no such row or run.
use mathlib.Core.Path.{◌≡◌, refl, sym, ◌∙◌}
use mathlib.Core.Bool.{true, false, true≢false, or-true, and-false}
use mathlib.Core.Logic.{◌⊎◌, inl, inr, ⊎_elim}
use mathlib.Core.List.{List, [], ◌∷◌}
use Prim.Native.Nat.{ℕ, zero, suc, ◌+◌, ◌-◌, ◌*◌, ◌%◌, ◌^◌, ◌≤◌, ◌<◌, min, max}
use native.Mathlib.Omega.{arith}
use borrow.Author.Tests.{le-leb, lt-ltb, le-ltb}
use lib.Dec.{leb}
use lib.ListN.{length}
use Rattle.fields.specs.Answers.{none}
use Rattle.fields.proofs.Tests.{split-le}
use Rattle.run_list.specs.Runs.{covers, has, ValidFrom}
use Rattle.run_list.specs.Rising.{All}
use Rattle.run_list.proofs.Boundaries.{valid-from, has-inside, inside-below}
use Rattle.neighbours.specs.Neighbours.{row_above, row_below_from, first_shared_from}
use Rattle.neighbours.specs.Meaning.{NearestAbove, NearestBelow, NoneAbove, NoneBelow, run_has, FirstShared, NoneShared}

-- no row is listed below the first start
has-below : (ws : List ℕ) (lo x : ℕ) → ValidFrom lo ws → x < lo → has ws x ≡ false
has-below ws lo x v h = has-inside ws lo x v ∙ inside-below false ws lo x (valid-from ws lo v) h

-- a run has no row that is before its start, or at its end or after it
covers-not : (s e x : ℕ) → (s ≤ x → e ≤ x) → covers s e x ≡ false
covers-not s e x h = ⊎_elim (λ k. rw (le-ltb x e (h k.1)) (and-false (leb s x))) (λ k. rw k.0) (split-le s x)

-- ---- at or above

pub above-either : (ws : List ℕ) (lo r : ℕ) → ValidFrom lo ws → All (λ w. w < 2 ^ 64) ws
    → ((row_above ws r ≡ none) × NoneAbove ws r) ⊎ ((row_above ws r < none) × NearestAbove ws r (row_above ws r))
above-either [] lo r v f = inl (refl, λ x h. refl)
above-either (s ∷ []) lo r v f = absurd v
above-either (s ∷ e ∷ ws) lo r v f =
    ⊎_elim (λ k. rw (le-ltb r e k.1) (past k.1 (above-either ws (suc e) r v.2 f.1.1))) (λ k. rw (lt-ltb r e k.1) (inr (omega (arith, f.1.0, v.1, k.1), here k.1))) (split-le e r)
  where
    here : r < e → NearestAbove (s ∷ e ∷ ws) r (max s r)
    here k =
        record {
          listed = rw (le-leb s (max s r) (omega arith), lt-ltb (max s r) e (omega (arith, v.1)));
          side = omega arith;
          nearest = λ x h g. rw (covers-not s e x (λ i. absurd (omega arith))) (has-below ws (suc e) x v.2 (omega (arith, v.1)));
        }

    past : e ≤ r → ((row_above ws r ≡ none) × NoneAbove ws r) ⊎ ((row_above ws r < none) × NearestAbove ws r (row_above ws r))
        → ((row_above ws r ≡ none) × NoneAbove (s ∷ e ∷ ws) r) ⊎ ((row_above ws r < none) × NearestAbove (s ∷ e ∷ ws) r (row_above ws r))
    past k (inl d) = inl (d.0, λ x h. rw (covers-not s e x (λ i. omega arith)) (d.1 x h))
    past k (inr d) =
        inr (
          d.0,
          record {
            listed = rw d.1.listed (or-true (covers s e (row_above ws r)));
            side = d.1.side;
            nearest = λ x h g. rw (covers-not s e x (λ i. omega arith)) (d.1.nearest x h g);
          },
        )

-- ---- at or below

pub below-either : (found : ℕ) (ws : List ℕ) (lo r : ℕ) → ValidFrom lo ws → All (λ w. w < 2 ^ 64) ws
    → ((row_below_from found ws r ≡ found) × NoneBelow ws r) ⊎ ((row_below_from found ws r < none) × NearestBelow ws r (row_below_from found ws r))
below-either found [] lo r v f = inl (refl, λ x h. refl)
below-either found (s ∷ []) lo r v f = absurd v
below-either found (s ∷ e ∷ ws) lo r v f =
    ⊎_elim
    (λ k. rw k.0 (inr (more k.1 (below-either (min (e - 1) r) ws (suc e) r v.2 f.1.1))))
    (λ k. rw k.0 (fewer k.1 (below-either found ws (suc e) r v.2 f.1.1))) (split-le s r)
  where
    -- a row of a later run is past this run's end
    later : (b : ℕ) → has ws b ≡ true → e < b
    later b l = ⊎_elim (λ k. k.1) (λ k. absurd (true≢false (sym l ∙ has-below ws (suc e) b v.2 k.1))) (split-le (suc e) b)

    more : s ≤ r → ((row_below_from (min (e - 1) r) ws r ≡ min (e - 1) r) × NoneBelow ws r) ⊎ ((row_below_from (min (e - 1) r) ws r < none) × NearestBelow ws r (row_below_from (min (e - 1) r) ws r))
        → (row_below_from (min (e - 1) r) ws r < none) × NearestBelow (s ∷ e ∷ ws) r (row_below_from (min (e - 1) r) ws r)
    more h (inl d) =
        rw d.0 (
          omega (arith, f.1.0, v.1),
          record {
            listed = rw (le-leb s (min (e - 1) r) (omega (arith, v.1)), lt-ltb (min (e - 1) r) e (omega (arith, v.1)));
            side = omega arith;
            nearest = λ x g i. rw (covers-not s e x (λ j. omega arith)) (d.1 x i);
          },
        )
    more h (inr d) = (
      d.0,
      record {
        listed = rw d.1.listed (or-true (covers s e (row_below_from (min (e - 1) r) ws r)));
        side = d.1.side;
        nearest = λ x g i. rw (covers-not s e x (λ j. omega (arith, later _ d.1.listed))) (d.1.nearest x g i);
      },
    )

    fewer : r < s → ((row_below_from found ws r ≡ found) × NoneBelow ws r) ⊎ ((row_below_from found ws r < none) × NearestBelow ws r (row_below_from found ws r))
        → ((row_below_from found ws r ≡ found) × NoneBelow (s ∷ e ∷ ws) r) ⊎ ((row_below_from found ws r < none) × NearestBelow (s ∷ e ∷ ws) r (row_below_from found ws r))
    fewer h (inl d) = inl (d.0, λ x g. rw (covers-not s e x (λ i. absurd (omega arith))) (d.1 x g))
    fewer h (inr d) = absurd (omega (arith, later _ d.1.listed, d.1.side, v.1))

-- ---- the first run that shares a row

-- the words of run i + 1 are those of run i past the first run
run-past : (s e : ℕ) (ws : List ℕ) (i x : ℕ) → run_has (s ∷ e ∷ ws) (suc i) x ≡ run_has ws i x
run-past s e ws i x =
    let p : 2 * suc i ≡ suc (suc (2 * i)) = omega arith in
    let q : suc (suc (2 * i)) + 1 ≡ suc (suc (2 * i + 1)) = omega arith in
    rw (p, q) refl

pub shared-either : (k : ℕ) (ws : List ℕ) (a b : ℕ) → length ws % 2 ≡ 0
    → ((first_shared_from k ws a b ≡ none) × NoneShared ws a b) ⊎ ((i : ℕ) × (first_shared_from k ws a b ≡ k + i) × FirstShared ws i a b)
shared-either k [] a b o = inl (refl, λ i h. absurd (omega arith))
shared-either k (s ∷ []) a b o = absurd (omega arith)
shared-either k (s ∷ e ∷ ws) a b o =
    ⊎_elim (λ h. rw (lt-ltb (max s a) (min e b) h.1) (inr (0, omega arith, here h.1)))
    (λ h. rw (le-ltb (max s a) (min e b) (omega (arith, h.1))) (past (omega (arith, h.1)) (shared-either (suc k) ws a b (omega arith)))) (split-le (suc (max s a)) (min e b))
  where
    here : max s a < min e b → FirstShared (s ∷ e ∷ ws) 0 a b
    here h =
        record {
          within = omega arith;
          row = max s a;
          from = omega arith;
          below = omega arith;
          has_row = rw (le-leb s (max s a) (omega arith), lt-ltb (max s a) e (omega arith));
          first = λ j i. absurd (omega arith);
        }

    -- this run has no row of the range
    not-here : min e b ≤ max s a → (x : ℕ) → a ≤ x → x < b → covers s e x ≡ false
    not-here h x g i = covers-not s e x (λ j. omega arith)

    past : min e b ≤ max s a → ((first_shared_from (suc k) ws a b ≡ none) × NoneShared ws a b) ⊎ ((i : ℕ) × (first_shared_from (suc k) ws a b ≡ suc k + i) × FirstShared ws i a b)
        → ((first_shared_from (suc k) ws a b ≡ none) × NoneShared (s ∷ e ∷ ws) a b) ⊎ ((i : ℕ) × (first_shared_from (suc k) ws a b ≡ k + i) × FirstShared (s ∷ e ∷ ws) i a b)
    past h (inl d) = inl (d.0, none-at)
      where
        none-at : NoneShared (s ∷ e ∷ ws) a b
        none-at zero w x g i = not-here h x g i
        none-at (suc n) w x g i = rw (run-past s e ws n x) (d.1 n (omega arith) x g i)
    past h (inr d) =
        inr (
          suc d.0,
          omega (arith, d.1),
          record {
            within = omega (arith, d.2.within);
            row = d.2.row;
            from = d.2.from;
            below = d.2.below;
            has_row = rw (run-past s e ws d.0 d.2.row) d.2.has_row;
            first = first-at;
          },
        )
      where
        first-at : (j : ℕ) → j < suc d.0 → (x : ℕ) → a ≤ x → x < b → run_has (s ∷ e ∷ ws) j x ≡ false
        first-at zero w x g i = not-here h x g i
        first-at (suc n) w x g i = rw (run-past s e ws n x) (d.2.first n (omega arith) x g i)
