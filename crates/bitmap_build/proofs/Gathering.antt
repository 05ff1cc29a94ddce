-- Pairs gathered in the front of an output: the loops over items, and over sorted pairs in place.
use mathlib.Core.Bool.{Bool, true, false, cond, ◌||◌, or-false, or_assoc}
use mathlib.Core.Path.{◌≡◌, refl, sym, ap, ◌∙◌}
use mathlib.Core.List.{List, [], ◌∷◌, ◌++◌}
use Prim.Native.Nat.{ℕ, suc, ◌+◌, ◌*◌, ◌-◌, ◌/◌, ◌%◌, ◌≤◌, ◌<◌, max}
use native.Mathlib.Nat.{le_refl}
use native.Mathlib.Omega.{arith}
use lib.ListN.{length, take, drop, get_or, drop_of_length-le}
use lib.Seq.{take-length, length-take-le}
use Rattle.fields.specs.Answers.{none}
use Rattle.run_list.specs.Runs.{covers, has}
use Rattle.bitmap_build.specs.Sorting.{Sorted}
use Rattle.bitmap_build.specs.Joining.{run, Before, PutRun, Appended, pairs, Gathered, Normal}
use Rattle.bitmap_build.proofs.Pairs.{or-end, has-append, covers-none, drop-pair, take-pair}
use Rattle.bitmap_build.proofs.Sorted.{sorted-weaken, sorted-even}
use Rattle.bitmap_build.proofs.Inputs.{pairs-length, pairs_start, pairs-end}
use Rattle.bitmap_build.proofs.Appending.{run-even, run-has, before-run, before-valid}

-- the pairs still to be read after i words, from the front or, reversed, from the end
unfoldable pub left : Bool → List ℕ → ℕ → List ℕ
left reversed ws i = cond reversed (take (length ws - i) ws) (drop i ws)

pub record Gathering (reversed : Bool) (ws out₀ out : List ℕ) (k a b i : ℕ) : Type 0 where
  pub pairs : length ws % 2 ≡ 0
  pub here : i % 2 ≡ 0
  pub within : i ≤ length ws
  pub fits : length ws ≤ length out₀
  pub size : length out ≡ length out₀
  pub even : k % 2 ≡ 0
  pub room : k + length (run a b) ≤ i
  pub rows : (r : ℕ) → ((has (take k out) r || covers a b r) || has (left reversed ws i) r) ≡ has ws r
  pub later : (j : ℕ) → i ≤ j → drop j out ≡ drop j out₀

left-start : (reversed : Bool) (ws : List ℕ) → left reversed ws 0 ≡ ws
unfolding left
left-start true ws = let z : length ws - 0 ≡ length ws = omega arith in rw (z, take-length ws)
left-start false ws = refl

left_end : (reversed : Bool) (ws : List ℕ) (i : ℕ) → length ws ≤ i → left reversed ws i ≡ []
unfolding left
left_end true ws i h = let z : length ws - i ≡ 0 = omega arith in rw z
left_end false ws i h = drop_of_length-le ws h

left-next : (reversed : Bool) (ws : List ℕ) (i at : ℕ) → length ws % 2 ≡ 0 → i % 2 ≡ 0 → i < length ws → at ≡ cond reversed (length ws - i - 2) i → (r : ℕ)
    → has (left reversed ws i) r ≡ (covers (get_or ws at 0) (get_or ws (at + 1) 0) r || has (left reversed ws (i + 2)) r)
unfolding left
left-next false ws i at p h l e r = rw (e, drop-pair ws i (omega arith))
left-next true ws i at p h l e r =
    let j : length ws - i ≡ at + 2 = omega arith in
    let k : length ws - (i + 2) ≡ at = omega arith in
    let even : length (take at ws) % 2 ≡ 0 = rw (length-take-le at ws (omega arith)) (omega arith) in
    rw (j, k, take-pair ws at (omega arith))
    (has-append (take at ws) _ even r ∙ or-end (covers (get_or ws at 0) (get_or ws (at + 1) 0) r) (has (take at ws) r))

pub gathering-start : (reversed : Bool) (ws out : List ℕ) → length ws % 2 ≡ 0 → length ws ≤ length out → Gathering reversed ws out out 0 0 0 0
unfolding run
gathering-start reversed ws out p h =
    record {
      pairs = p;
      here = refl;
      within = omega arith;
      fits = h;
      size = refl;
      even = refl;
      room = le_refl 0;
      rows = λ r. rw (left-start reversed ws, covers-none 0 0 r (le_refl 0));
      later = λ j l. refl;
    }

module _ (reversed : Bool) (ws out₀ out : List ℕ) (k a b i : ℕ) (m : Gathering reversed ws out₀ out k a b i) where
  pub gathering-fits : k + length (run a b) ≤ length out
  gathering-fits = omega (arith, m.room, m.within, m.fits, m.size)

  pub gathering-next : i < length ws → (at : ℕ) → at ≡ cond reversed (length ws - i - 2) i → (k' a' b' : ℕ) (out' : List ℕ) → length out' ≡ length out
      → Appended k a b out (get_or ws at 0) (get_or ws (at + 1) 0) k' a' b' out' → Gathering reversed ws out₀ out' k' a' b' (i + 2)
  gathering-next h at e k' a' b' out' c t =
      record {
        pairs = m.pairs;
        here = omega (arith, m.here);
        within = omega (arith, m.pairs, m.here);
        fits = m.fits;
        size = c ∙ m.size;
        even = t.even;
        room = omega (arith, t.room, m.room);
        rows = λ r. rw (t.rows r)
            (or_assoc (has (take k out) r || covers a b r) (covers (get_or ws at 0) (get_or ws (at + 1) 0) r) (has (left reversed ws (i + 2)) r) ∙ (rw (left-next reversed ws i at m.pairs m.here h e r) at (m.rows r)));
        later = λ j l. t.later j (omega (arith, m.room)) ∙ m.later j (omega arith);
      }

  pub gathering-end : length ws ≤ i → (n : ℕ) (out' : List ℕ) → PutRun k a b out n out' → Gathered ws (length ws) out₀ n out'
  gathering-end h n out' w =
      let e : i ≡ length ws = omega (arith, m.within) in
      let l : length (take k out) % 2 ≡ 0 = rw (length-take-le k out (omega (arith, gathering-fits))) m.even in
      record {
        even = omega (arith, m.even, w.next, run-even a b);
        same = λ r. rw (w.words, has-append (take k out) (run a b) l r, run-has a b r)
            (sym (or-false _) ∙ (rw (left_end reversed ws i h) at (m.rows r)));
        inside = omega (arith, w.next, m.room);
        later = w.later (length ws) (omega (arith, w.next, m.room)) ∙ m.later (length ws) (omega arith);
      }

-- ---- items

module _ {A : Type 0} (start end : A → ℕ) (reversed : Bool) (items : List A) where
  pub items_start : (out : List ℕ) → length items * 2 ≤ length out → Gathering reversed (pairs start end items) out out 0 0 0 0
  items_start out h =
      let l = pairs-length start end items in
      gathering-start reversed (pairs start end items) out (omega arith) (omega arith)

  module _ (out₀ out : List ℕ) (k a b i : ℕ) (m : Gathering reversed (pairs start end items) out₀ out k a b (2 * i)) where
    pub items_next : i < length items → (at : ℕ) → at ≡ cond reversed (length items - 1 - i) i → (x : A) → x ≡ get_or items at x → (s e : ℕ) → s ≡ start x
        → e ≡ end x → (k' a' b' : ℕ) (out' : List ℕ) → length out' ≡ length out
        → Appended k a b out s e k' a' b' out' → Gathering reversed (pairs start end items) out₀ out' k' a' b' (2 * (i + 1))
    items_next h at f x d s e u v k' a' b' out' c t =
        let n : 2 * i + 2 ≡ 2 * (i + 1) = omega arith in
        let q : at < length items = inside reversed f in
        let y : get_or (pairs start end items) (2 * at) 0 ≡ s = pairs_start start end items at x q ∙ ap start (sym d) ∙ sym u in
        let z : get_or (pairs start end items) (2 * at + 1) 0 ≡ e = pairs-end start end items at x q ∙ ap end (sym d) ∙ sym v in
        let l = pairs-length start end items in
        rw n at (gathering-next reversed (pairs start end items) out₀ out k a b (2 * i) m (omega arith) (2 * at) (twice reversed f) k' a' b' out' c
        (rw (y, z) t))
      where
        inside : (r : Bool) → at ≡ cond r (length items - 1 - i) i → at < length items
        inside true e = omega arith
        inside false e = omega arith

        twice : (r : Bool) → at ≡ cond r (length items - 1 - i) i → 2 * at ≡ cond r (length (pairs start end items) - 2 * i - 2) (2 * i)
        twice true e = omega (arith, pairs-length start end items)
        twice false e = omega arith

    pub items_end : length items ≤ i → (n : ℕ) (out' : List ℕ) → PutRun k a b out n out' → Gathered (pairs start end items) (length items * 2) out₀ n out'
    items_end h n out' w =
        let l = pairs-length start end items in
        rw l at (gathering-end reversed (pairs start end items) out₀ out k a b (2 * i) m (omega arith) n out' w)

-- ---- sorted pairs, in place

pub record Joining (s₀ s : List ℕ) (k a b i : ℕ) : Type 0 where
  pub words : Gathering false s₀ s₀ s k a b i
  pub order : Before 0 a (take k s)
  pub rest : Sorted a none (drop i s₀)

pub joining-start : (s : List ℕ) → Sorted 0 none s → Joining s s 0 0 0 0
joining-start s f =
    record { words = gathering-start false s s (sorted-even 0 none s f) (le_refl _); order = le_refl 0; rest = f }

module _ (s₀ s : List ℕ) (k a b i : ℕ) (m : Joining s₀ s k a b i) where
  -- what is unread is as it was
  unread : i + 1 < length s → drop i s₀ ≡ get_or s i 0 ∷ get_or s (i + 1) 0 ∷ drop (i + 2) s₀
  unread h =
      let e : drop i s ≡ drop i s₀ = m.words.later i (le_refl i) in
      sym e ∙ drop-pair s i h ∙ ap (λ (z : List ℕ). get_or s i 0 ∷ get_or s (i + 1) 0 ∷ z) (m.words.later (i + 2) (omega arith))

  after-words : i < length s → (k' a' b' : ℕ) (s' : List ℕ) → length s' ≡ length s → Appended k a b s (get_or s i 0) (get_or s (i + 1) 0) k' a' b' s'
      → Joining s₀ s' k' a' b' (i + 2)
  after-words h k' a' b' s' c t =
      let g = m.words in
      let l : i + 1 < length s = omega (arith, g.pairs, g.here, g.size) in
      let u = unread l in
      let l₀ : i + 1 < length s₀ = omega (arith, g.size) in
      let r : Sorted a none (get_or s i 0 ∷ get_or s (i + 1) 0 ∷ drop (i + 2) s₀) = rw u at m.rest in
      record {
        words = gathering-next false s₀ s₀ s k a b i g (omega (arith, g.size)) i refl k' a' b' s' c (same-pair l l₀ u t);
        order = t.order r.0 m.order;
        rest = sorted-weaken a' (get_or s i 0) none (drop (i + 2) s₀) (t.start r.0) r.2;
      }
    where
      same-pair : i + 1 < length s → i + 1 < length s₀ → drop i s₀ ≡ get_or s i 0 ∷ get_or s (i + 1) 0 ∷ drop (i + 2) s₀
          → Appended k a b s (get_or s i 0) (get_or s (i + 1) 0) k' a' b' s' → Appended k a b s (get_or s₀ i 0) (get_or s₀ (i + 1) 0) k' a' b' s'
      same-pair l l₀ u t =
          let p = sym (drop-pair s₀ i l₀) ∙ u in
          let x : get_or s₀ i 0 ≡ get_or s i 0 = cc in
          let y : get_or s₀ (i + 1) 0 ≡ get_or s (i + 1) 0 = cc in
          rw (x, y) t

  all-words : length s ≤ i → (n : ℕ) (s' : List ℕ) → PutRun k a b s n s' → Normal s₀ n s'
  all-words h n s' w =
      let g = gathering-end false s₀ s₀ s k a b i m.words (omega (arith, m.words.size)) n s' w in
      record {
        valid = rw w.words (before-valid 0 (suc (max a b)) (take k s ++ run a b) (before-run 0 a b (suc (max a b)) (take k s) (omega arith) (omega arith) m.order));
        same = g.same;
        inside = g.inside;
      }

-- the same by pairs
module _ (s₀ s : List ℕ) (k a b i : ℕ) (m : Joining s₀ s k a b (2 * i)) where
  pub joining-next : i < length s₀ / 2 → (k' a' b' : ℕ) (s' : List ℕ) → length s' ≡ length s
      → Appended k a b s (get_or s (2 * i) 0) (get_or s (2 * i + 1) 0) k' a' b' s' → Joining s₀ s' k' a' b' (2 * (i + 1))
  joining-next h k' a' b' s' c t =
      let two : 2 * i + 2 ≡ 2 * (i + 1) = omega arith in
      rw two at (after-words s₀ s k a b (2 * i) m (omega (arith, m.words.size)) k' a' b' s' c t)

  pub joining-end : length s₀ / 2 ≤ i → (n : ℕ) (s' : List ℕ) → PutRun k a b s n s' → Normal s₀ n s'
  joining-end h = all-words s₀ s k a b (2 * i) m (omega (arith, m.words.size, m.words.pairs))
