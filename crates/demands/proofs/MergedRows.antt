-- The entries of two indexes merged: the values of both, rising, and under each value the rows of both; no other entries have these.
use mathlib.Core.Path.{◌≡◌, refl, sym, ap₂, ◌∙◌}
use mathlib.Core.Bool.{Bool, true, false, ◌||◌, true≢false, or-false, or_assoc, or_comm}
use mathlib.Core.Logic.{⊎_elim}
use mathlib.Core.List.{List, [], ◌∷◌}
use Prim.Native.Nat.{ℕ, suc, ◌^◌, ◌<◌}
use native.Mathlib.Omega.{arith}
use borrow.Author.Tests.{eq-eqb, ne_eqb}
use lib.Dec.{eqb}
use Rattle.fields.proofs.Tests.{split-eq, split-le}
use Rattle.run_list.specs.Runs.{has}
use Rattle.run_list.proofs.Boundaries.{unique}
use Rattle.boundary.specs.Merge.{either}
use Rattle.boundary.proofs.Combining.{combine-valid, combine-has, combine-all}
use Rattle.index.specs.Index.{Entry, entry, words_of, present}
use Rattle.index.proofs.IndexTrip.{Sounds}
use Rattle.index_write.specs.Calls.{inserted}
use Rattle.index_merge.specs.Calls.{merged}
use Rattle.index_merge.proofs.Merging.{by_order, none-merged, merged-none, joint, merged-lesser, merged-equal, merged-greater}
use Rattle.demands.proofs.InsertedRows.{at_least, inserted-empty, inserted-front, inserted-here, inserted-later, words-here, words-later, words-missing}
use Rattle.demands.proofs.InsertedValues.{or_swap}

-- merging one entry is inserting it
pub merged-one : (v : ℕ) (ws : List ℕ) (es : List Entry) → merged (entry v ws ∷ []) es ≡ inserted v ws es
merged-one v ws [] = merged-none (entry v ws ∷ []) ∙ sym (inserted-empty v ws)
merged-one v ws (e ∷ es) =
    let x = entry v ws in
    by_order v e.value
    (λ h. rw (merged-lesser x [] e es h, inserted-front v ws e es h, none-merged (e ∷ es)))
    (λ h. rw (merged-equal x [] e es h, inserted-here v ws e es h, none-merged es))
    (λ h. rw (merged-greater x [] e es h, inserted-later v ws e es h, merged-one v ws es))

-- ---- values

or-both : (p q r : Bool) → (p || (q || r)) ≡ ((p || q) || (p || r))
or-both true q r = refl
or-both false q r = refl

-- the values of both, and no other
pub merged-present : (es fs : List Entry) (u : ℕ) → present (merged es fs) u ≡ (present es u || present fs u)
unfolding present
merged-present [] fs u = rw (none-merged fs)
merged-present (e ∷ es) [] u = rw (merged-none (e ∷ es)) (sym (or-false _))
merged-present (e ∷ es) (f ∷ fs) u =
    let p = eqb e.value u in
    by_order e.value f.value
    (λ h. rw (merged-lesser e es f fs h, merged-present es (f ∷ fs) u) (sym (or_assoc p (present es u) (present (f ∷ fs) u))))
    (λ h. rw (merged-equal e es f fs h, merged-present es fs u, ← h) (or-both p (present es u) (present fs u)))
    (λ h. rw (merged-greater e es f fs h, merged-present (e ∷ es) fs u) (or_swap (eqb f.value u) (present (e ∷ es) u) (present fs u)))

-- they rise, and the entries can be written
pub merged-sound : (es fs : List Entry) (lo : ℕ) → Sounds lo es → Sounds lo fs → Sounds lo (merged es fs)
merged-sound [] fs lo s t = rw (none-merged fs) t
merged-sound (e ∷ es) [] lo s t = rw (merged-none (e ∷ es)) s
merged-sound (e ∷ es) (f ∷ fs) lo s t =
    let x = s.0 in
    let y = t.0 in
    by_order e.value f.value
    (λ h. rw (merged-lesser e es f fs h) (x, merged-sound es (f ∷ fs) (suc e.value) s.1 (at_least f h y, t.1)))
    (λ h. rw (merged-equal e es f fs h) (
      record {
        low = x.low;
        value = x.value;
        valid = combine-valid either refl e.words f.words x.valid y.valid;
        words = combine-all either (λ w. w < 2 ^ 64) e.words f.words x.words y.words;
      },
      merged-sound es fs (suc e.value) s.1 (rw h t.1),
    ))
    (λ h. rw (merged-greater e es f fs h) (y, merged-sound (e ∷ es) fs (suc f.value) (at_least e h x, s.1) t.1))

-- ---- rows

module _ (u r : ℕ) where
  -- row r is listed under value u
  abbrev listed : List Entry → Bool
  listed es = has (words_of es u) r

  listed-none : listed [] ≡ false
  unfolding words_of
  listed-none = refl

  -- an entry in front, whose value is not among the others
  listed-front : (e : Entry) (es fs gs : List Entry) → words_of fs e.value ≡ [] → listed gs ≡ (listed es || listed fs)
      → listed (e ∷ gs) ≡ (listed (e ∷ es) || listed fs)
  listed-front e es fs gs h ih =
      ⊎_elim
      (λ k. let n : words_of fs u ≡ [] = rw (← k.1) h in
      rw (words-here e gs u k.1, words-here e es u k.1, n) (sym (or-false (has e.words r))))
      (λ k. rw (words-later e gs u k.1, words-later e es u k.1) ih)
      (split-eq e.value u)

-- the rows of both
pub merged-rows : (es fs : List Entry) (lo : ℕ) → Sounds lo es → Sounds lo fs
    → (u r : ℕ) → has (words_of (merged es fs) u) r ≡ (has (words_of es u) r || has (words_of fs u) r)
merged-rows [] fs lo s t u r = rw (none-merged fs, listed-none u r)
merged-rows (e ∷ es) [] lo s t u r = rw (merged-none (e ∷ es), listed-none u r) (sym (or-false _))
merged-rows (e ∷ es) (f ∷ fs) lo s t u r =
    let x = s.0 in
    let y = t.0 in
    by_order e.value f.value
    (λ h. let k : Sounds (suc e.value) (f ∷ fs) = (at_least f h y, t.1) in
    rw (merged-lesser e es f fs h)
    (listed-front u r e es (f ∷ fs) _ (words-missing (f ∷ fs) (suc e.value) e.value k (omega arith)) (merged-rows es (f ∷ fs) (suc e.value) s.1 k u r)))
    (λ h. rw (merged-equal e es f fs h)
    (⊎_elim
    (λ k. rw (words-here (joint e f) (merged es fs) u k.1, words-here e es u k.1, words-here f fs u (sym h ∙ k.1))
    (combine-has either refl e.words f.words x.valid y.valid r))
    (λ k. rw (words-later (joint e f) (merged es fs) u k.1, words-later e es u k.1, words-later f fs u (λ z. k.1 (h ∙ z)))
    (merged-rows es fs (suc e.value) s.1 (rw h t.1) u r))
    (split-eq e.value u)))
    (λ h. let k : Sounds (suc f.value) (e ∷ es) = (at_least e h x, s.1) in
    rw (merged-greater e es f fs h)
    (listed-front u r f fs (e ∷ es) _ (words-missing (e ∷ es) (suc f.value) f.value k (omega arith))
    (merged-rows (e ∷ es) fs (suc f.value) k t.1 u r ∙ or_comm (listed u r (e ∷ es)) (listed u r fs))
    ∙ or_comm (listed u r (f ∷ fs)) (listed u r (e ∷ es))))

-- ---- only one list of entries has given values, and given rows under each

module _ (e : Entry) (es : List Entry) (u : ℕ) where
  present-here : e.value ≡ u → present (e ∷ es) u ≡ true
  unfolding present
  present-here h = rw (eq-eqb e.value u h)

  present-later : (e.value ≡ u → ⊥) → present (e ∷ es) u ≡ present es u
  unfolding present
  present-later h = rw (ne_eqb e.value u h)

-- values below those of the entries are missing
present-missing : (es : List Entry) (lo u : ℕ) → Sounds lo es → u < lo → present es u ≡ false
unfolding present
present-missing [] lo u s h = refl
present-missing (e ∷ es) lo u s h =
    present-later e es u (λ z. omega (arith, s.0.low)) ∙ present-missing es (suc e.value) u s.1 (omega (arith, s.0.low))

-- entries that have the first value of others do not start above it
not-above : (es : List Entry) (f : Entry) (fs : List Entry) (lo : ℕ) → Sounds lo es
    → present es f.value ≡ present (f ∷ fs) f.value → f.value < lo → ⊥
not-above es f fs lo s p h = true≢false (sym (present-here f fs f.value refl) ∙ sym p ∙ present-missing es lo f.value s h)

same-entry : (e f : Entry) → e.value ≡ f.value → e.words ≡ f.words → e ≡ f
same-entry e f p q = ap₂ entry p q

-- the first values are equal, by the values that are present; then the first run lists, by their rows; then the rest
pub one_index : (es fs : List Entry) (lo : ℕ) → Sounds lo es → Sounds lo fs
    → ((u : ℕ) → present es u ≡ present fs u)
    → ((u r : ℕ) → has (words_of es u) r ≡ has (words_of fs u) r)
    → es ≡ fs
one_index [] [] lo s t p w = refl
one_index [] (f ∷ fs) lo s t p w = absurd (not-above [] f fs (suc f.value) tt (p f.value) (omega arith))
one_index (e ∷ es) [] lo s t p w = absurd (not-above [] e es (suc e.value) tt (sym (p e.value)) (omega arith))
one_index (e ∷ es) (f ∷ fs) lo s t p w =
    by_order e.value f.value
    (λ h. absurd (not-above (f ∷ fs) e es (suc e.value) (at_least f h t.0, t.1) (sym (p e.value)) (omega arith)))
    (λ h. ap₂ ◌∷◌
    (same-entry e f h (unique e.words f.words s.0.valid t.0.valid (λ r. here h r)))
    (one_index es fs (suc e.value) s.1 (after h) (later-values h) (later_rows h)))
    (λ h. absurd (not-above (e ∷ es) f fs (suc f.value) (at_least e h s.0, s.1) (p f.value) (omega arith)))
  where
    here : e.value ≡ f.value → (r : ℕ) → has e.words r ≡ has f.words r
    here h r = rw (words-here e es e.value refl, words-here f fs e.value (sym h)) at (w e.value r)

    after : e.value ≡ f.value → Sounds (suc e.value) fs
    after h = rw h t.1

    later-values : e.value ≡ f.value → (u : ℕ) → present es u ≡ present fs u
    later-values h u =
        ⊎_elim
        (λ k. present-missing es (suc e.value) u s.1 (omega (arith, k.1)) ∙ sym (present-missing fs (suc e.value) u (after h) (omega (arith, k.1))))
        (λ k. rw (present-later e es u (λ z. omega (arith, k.1)), present-later f fs u (λ z. omega (arith, k.1))) at (p u))
        (split-le u e.value)

    later_rows : e.value ≡ f.value → (u r : ℕ) → has (words_of es u) r ≡ has (words_of fs u) r
    later_rows h u r =
        ⊎_elim
        (λ k. rw (words-missing es (suc e.value) u s.1 (omega (arith, k.1)), words-missing fs (suc e.value) u (after h) (omega (arith, k.1))))
        (λ k. rw (words-later e es u (λ z. omega (arith, k.1)), words-later f fs u (λ z. omega (arith, k.1))) at (w u r))
        (split-le u e.value)

module _ (es fs : List Entry) (lo : ℕ) (s : Sounds lo es) (t : Sounds lo fs) where
  -- entries with the values of both, and under each the rows of both, are the merged entries
  pub merged-unique : (gs : List Entry) → Sounds lo gs
      → ((u : ℕ) → present gs u ≡ (present es u || present fs u))
      → ((u r : ℕ) → has (words_of gs u) r ≡ (has (words_of es u) r || has (words_of fs u) r))
      → gs ≡ merged es fs
  merged-unique gs o p w =
      one_index gs (merged es fs) lo o (merged-sound es fs lo s t)
      (λ u. p u ∙ sym (merged-present es fs u))
      (λ u r. w u r ∙ sym (merged-rows es fs lo s t u r))

-- the order of the two does not matter
pub merged-swap : (es fs : List Entry) (lo : ℕ) → Sounds lo es → Sounds lo fs → merged es fs ≡ merged fs es
merged-swap es fs lo s t =
    merged-unique fs es lo t s (merged es fs) (merged-sound es fs lo s t)
    (λ u. merged-present es fs u ∙ or_comm (present es u) (present fs u))
    (λ u r. merged-rows es fs lo s t u r ∙ or_comm (listed u r es) (listed u r fs))
