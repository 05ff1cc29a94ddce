-- The union of two blocks: a boundary is stored before it is known whether the union changes there; when one block is used up, the words of the other are left.
use mathlib.Core.Path.{◌≡◌, refl, sym, ◌∙◌}
use mathlib.Core.Bool.{Bool, true, false, not, beq, true≢false}
use mathlib.Core.Logic.{◌⊎◌, ⊎_elim}
use mathlib.Core.List.{List, [], ◌∷◌, ◌++◌, append-nil}
use Prim.Native.Nat.{ℕ, suc, ◌+◌, ◌%◌, ◌≤◌, ◌<◌, min, ◌*◌, ◌^◌}
use native.Mathlib.Nat.{le_refl, add-zero}
use native.Mathlib.Numerals.{add-one}
use native.Mathlib.Omega.{arith}
use borrow.Author.Tests.{eq-eqb, le-leb}
use lib.Dec.{leb}
use lib.ListN.{length, drop, get_or, length-append, length-drop, drop_of_length-le}
use lib.Seq.{slice, take_all}
use Rattle.std.specs.Int.{from_bool}
use Rattle.fields.specs.Counting.{bit}
use Rattle.fields.proofs.Tests.{split-le}
use Rattle.run_list.specs.Rising.{ends}
use Rattle.run_list.specs.Blocks.{block_runs, block_words}
use Rattle.run_list.proofs.BlockWords.{length-block_words, runs-few}
use Rattle.boundary.specs.Merge.{merge, combine, either}
use Rattle.boundary.specs.Values.{odd_at, changes}
use Rattle.boundary.specs.Stores.{StoredBy, set_bytes, store_all, emits, Puts, rest}
use Rattle.boundary.specs.Walk.{Moved}
use Rattle.boundary.specs.Uniting.{BothLeft}
use Rattle.boundary.specs.declared.Cursor.{Cursor}
use Rattle.boundary.proofs.Combining.{steps-ends, merge_step, merge-nil, combine-length}
use Rattle.boundary.proofs.Stores.{stores-append}
use Rattle.boundary.proofs.Storing.{bytes-twice, storing-bytes}
use Rattle.boundary.proofs.Fronts.{odd-flip}
use Rattle.boundary.proofs.Moving.{rest-one}
use Rattle.boundary.proofs.Advancing.{Merging, merging-next}
use Rattle.boundary.proofs.Sweeping.{byte-bit, byte-changes, next-step, steps_on}

-- ---- a word stored too early

-- a word stored too early is stored over, where a word is left
early : (out : List ℕ) (k x : ℕ) (ws : List ℕ) → (ws ≡ [] → ⊥) → store_all set_bytes (set_bytes out k x) k ws ≡ store_all set_bytes out k ws
early out k x [] h = absurd (h refl)
early out k x (y ∷ ws) h = rw (bytes-twice out k x y)

-- ---- where the union goes on there is a boundary left

ends-odd : (ws : List ℕ) (i : ℕ) → ends (odd_at i) ws ≡ odd_at (i + length ws)
ends-odd [] i = rw (add-zero i)
ends-odd (x ∷ ws) i = let e : i + 1 + length ws ≡ i + suc (length ws) = omega arith in rw (← (odd-flip i)) (ends-odd ws (i + 1) ∙ rw e)

even-ends : (ws : List ℕ) (i : ℕ) → length ws % 2 ≡ 0 → i ≤ length ws → ends (odd_at i) (drop i ws) ≡ false
even-ends ws i e h =
    let d : (i + length (drop i ws)) % 2 ≡ 0 = omega (arith, length-drop i ws) in
    ends-odd (drop i ws) i ∙ rw d

module _ (a b : List ℕ) (ea : length a % 2 ≡ 0) (eb : length b % 2 ≡ 0) (i j : ℕ) (li : i ≤ length a) (lj : j ≤ length b) where
  pub union-open : either (odd_at i) (odd_at j) ≡ true → rest either a b i j ≡ [] → ⊥
  unfolding merge
  union-open s e =
      let t = steps-ends either (length (drop i a) + length (drop j b)) (odd_at i) (odd_at j) (drop i a) (drop j b) (le_refl _) in
      true≢false (rw (e, s, even-ends a i ea li, even-ends b j eb lj) at t)

neither : (p q : Bool) → either p q ≡ false → (p ≡ false) × (q ≡ false)
neither true q e = absurd (true≢false e)
neither false true e = absurd (true≢false e)
neither false false e = (refl, refl)

-- a boundary has the union on one side at least, since it is a word of one of the lists
outside-once : (i j x y : ℕ) → either (odd_at i) (odd_at j) ≡ false → either (odd_at (i + bit (leb x y))) (odd_at (j + bit (leb y x))) ≡ false → ⊥
outside-once i j x y e d =
    let p = neither (odd_at i) (odd_at j) e in
    let q = neither (odd_at (i + bit (leb x y))) (odd_at (j + bit (leb y x))) d in
    ⊎_elim (λ h. true≢false (rw (h.0, odd-flip i, p.0) at q.0)) (λ h. true≢false (rw (le-leb y x (down h.1), odd-flip j, p.1) at q.1)) (split-le x y)
  where
    down : y < x → y ≤ x
    down h = omega arith

-- ---- one boundary

-- x is stored at k; where it counts, d is 1 and x is the first of all, else d is 0
record Early (k d x : ℕ) (out all ws : List ℕ) : Type 0 where
  number : k + d + length ws ≡ k + length all
  words : store_all set_bytes (set_bytes out k x) (k + d) ws ≡ store_all set_bytes out k all

stored-early : (u v : Bool) (k d x : ℕ) (out all ws : List ℕ) → d ≡ bit (changes u v) → all ≡ emits u v (x ∷ []) ++ ws → (u ≡ false → v ≡ false → ⊥) → (v ≡ true → ws ≡ [] → ⊥)
    → Early k d x out all ws
stored-early true true k d x out all ws c e n o = record { number = rw (e, c) (omega arith); words = rw (e, c, add-zero k) (early out k x ws (o refl)) }
stored-early true false k d x out all ws c e n o = record { number = rw (e, c) (omega arith); words = rw (e, c, add-one k) }
stored-early false true k d x out all ws c e n o = record { number = rw (e, c) (omega arith); words = rw (e, c, add-one k) }
stored-early false false k d x out all ws c e n o = absurd (n refl refl)

-- of two lists that have an even number of words
module _ (a b : List ℕ) (ea : length a % 2 ≡ 0) (eb : length b % 2 ≡ 0) (t : Cursor) (z : BothLeft a b t) (out : List ℕ)
    (x : ℕ) (ex : x ≡ get_or a t.i 0) (y : ℕ) (ey : y ≡ get_or b t.j 0) (m : ℕ) (em : m ≡ from_bool (leb x y)) (n : ℕ) (en : n ≡ from_bool (leb y x))
    (w : Bool) (ew : w ≡ either (odd_at (t.i + m)) (odd_at (t.j + n))) (q : ℕ) (eq : q ≡ min x y) (out' : List ℕ) (eo : out' ≡ set_bytes out t.k q)
    (d : ℕ) (ed : d ≡ from_bool (not (beq t.was w))) where
  pub united : Moved set_bytes either a b t out (record { i = t.i + m; j = t.j + n; k = t.k + d; was = w }) out'
  united =
      let i = t.i + m in
      let j = t.j + n in
      let vm : m ≡ bit (leb x y) = em ∙ byte-bit (leb x y) in
      let vn : n ≡ bit (leb y x) = en ∙ byte-bit (leb y x) in
      let s = next-step a b t.i t.j x y i j ex ey z.left z.right (rw vm) (rw vn) in
      let l = s.left in
      let r = s.right in
      let g = stored-early t.was w t.k d (min x y) out (rest either a b t.i t.j) (rest either a b i j) (ed ∙ byte-changes t.was w)
      (rw (z.state, ew) (rest-one either a b t.i t.j (min x y) i j s))
      (λ p o. outside-once t.i t.j x y (sym z.state ∙ p) (rw (vm, vn) at (sym ew ∙ o)))
      (λ o. union-open a b ea eb i j l.high r.high (sym ew ∙ o)) in
      record {
        further = omega (arith, vm, vn, steps_on x y);
        left = l.high;
        right = r.high;
        state = ew;
        same = rw eo (storing-bytes.same out t.k q);
        number = g.number;
        words = rw (eo, eq) g.words;
      }

-- ---- one block is used up: the boundaries left are the words left of the other

merge-left : (p : Bool) (ws : List ℕ) → merge either p false ws [] ≡ ws
merge-left p [] = merge-nil either p false [] [] (le_refl 0)
merge-left true (x ∷ ws) = merge_step either true false (x ∷ ws) [] ∙ rw (eq-eqb x x refl, merge-left false ws)
merge-left false (x ∷ ws) = merge_step either false false (x ∷ ws) [] ∙ rw (eq-eqb x x refl, merge-left true ws)

merge-right : (q : Bool) (ws : List ℕ) → merge either false q [] ws ≡ ws
merge-right q [] = merge-nil either false q [] [] (le_refl 0)
merge-right true (x ∷ ws) = merge_step either false true [] (x ∷ ws) ∙ rw (eq-eqb x x refl, merge-right false ws)
merge-right false (x ∷ ws) = merge_step either false false [] (x ∷ ws) ∙ rw (eq-eqb x x refl, merge-right true ws)

-- the union with no words
pub union_left : (ws : List ℕ) → combine either ws [] ≡ ws
unfolding combine
union_left ws = merge-left false ws

pub union_right : (ws : List ℕ) → combine either [] ws ≡ ws
unfolding combine
union_right ws = merge-right false ws

even-end : (ws : List ℕ) (i : ℕ) → length ws % 2 ≡ 0 → i ≡ length ws → odd_at i ≡ false
even-end ws i e d = let f : i % 2 ≡ 0 = omega arith in rw f

module _ (a b : List ℕ) (i j : ℕ) where
  pub rest-left : length b % 2 ≡ 0 → j ≡ length b → rest either a b i j ≡ drop i a ++ drop j b
  rest-left e h = rw (even-end b j e h, drop_of_length-le b {i = j} (omega arith), append-nil (drop i a)) (merge-left (odd_at i) (drop i a))

  pub rest-right : length a % 2 ≡ 0 → i ≡ length a → rest either a b i j ≡ drop i a ++ drop j b
  rest-right e h = rw (even-end a i e h, drop_of_length-le a {i = i} (omega arith)) (merge-right (odd_at j) (drop j b))

-- ---- the words of two blocks

pub even-words : (block ws : List ℕ) → ws ≡ block_words block → length ws % 2 ≡ 0
even-words block ws e = rw e (omega (arith, length-block_words block))

pub few-words : (l r a b : List ℕ) → a ≡ block_words l → b ≡ block_words r → length l * 1 < 2 ^ 63 → length r * 1 < 2 ^ 63 → length a + length b < 2 ^ 62
few-words l r a b ea eb hl hr =
    rw (ea, eb) (omega (arith, length-block_words l, length-block_words r, runs-few l (block_runs l) refl, runs-few r (block_runs r) refl))

-- ---- the loop

module _ (a b : List ℕ) (m n : ℕ) (em : m ≡ length a) (en : n ≡ length b) (out₀ : List ℕ) (t : Cursor) (out : List ℕ)
    (c : Merging set_bytes either a b out₀ (m + n) t out) where
  pub uniting-both : t.i < m → t.j < n → BothLeft a b t
  uniting-both h k =
      record { left = omega (arith, h, em); right = omega (arith, k, en); whole = omega (arith, c.number, combine-length either a b); state = c.state }

  pub uniting-next : t.i < m → t.j < n → (r : Cursor) (out' : List ℕ) → Moved set_bytes either a b t out r out' → Merging set_bytes either a b out₀ (m + n) r out'
  uniting-next h k r out' v = merging-next set_bytes either a b out₀ (m + n) t out c (omega (arith, h, k)) r out' v

  -- with one list used up, the words left of both are those of the union
  module _ (ea : length a % 2 ≡ 0) (eb : length b % 2 ≡ 0) (k : ℕ) (mid : List ℕ) (p : Puts set_bytes false true (slice t.i m a) t.k out k mid)
      (k' : ℕ) (end : List ℕ) (q : Puts set_bytes false true (slice t.j n b) k mid k' end) where
    pub united-words : (m ≤ t.i) ⊎ (n ≤ t.j) → StoredBy set_bytes (combine either a b) out₀ k' end
    united-words used =
        let d = drop t.i a in
        let e = drop t.j b in
        let pd : slice t.i m a ≡ d = rw em (slice-end t.i a) in
        let qe : slice t.j n b ≡ e = rw en (slice-end t.j b) in
        let s : end ≡ store_all set_bytes out t.k (d ++ e) = q.written ∙ rw (p.written, p.next, pd, qe) (sym (stores-append set_bytes out t.k d e)) in
        record {
          number = omega (arith, rw pd at p.next, rw qe at q.next, length-append d e, rw words_left at c.number);
          written = s ∙ rw words_left at c.words;
        }
      where
        slice-end : (i : ℕ) (ws : List ℕ) → slice i (length ws) ws ≡ drop i ws
        slice-end i ws = rw (take_all (length ws) ws (le_refl (length ws)))

        words_left : rest either a b t.i t.j ≡ drop t.i a ++ drop t.j b
        words_left =
            ⊎_elim (λ h. rest-right a b t.i t.j ea (omega (arith, h, c.left, em))) (λ h. rest-left a b t.i t.j eb (omega (arith, h, c.right, en))) used
