-- Boundaries taken without branches on the words.
use mathlib.Core.Path.{◌≡◌, refl, sym, ◌∙◌}
use mathlib.Core.Bool.{Bool, true, false, cond, not, beq, ◌&&◌, true≢false}
use mathlib.Core.Logic.{⊎_elim}
use mathlib.Core.List.{List, [], ◌∷◌}
use Prim.Native.Nat.{ℕ, ◌+◌, ◌-◌, ◌≤◌, ◌<◌, ◌^◌, min}
use native.Mathlib.Nat.{add-zero, min_comm, min-eq_left, min-eq_right}
use native.Mathlib.Omega.{arith}
use borrow.Author.Tests.{eq-eqb, ne_eqb, le-leb, leb-true}
use lib.Dec.{eqb, leb}
use lib.ListN.{length, get_or}
use Rattle.std.specs.Int.{from_bool}
use Rattle.fields.specs.Counting.{bit}
use Rattle.fields.proofs.Tests.{split-le}
use Rattle.boundary.specs.Values.{odd_at, changes}
use Rattle.boundary.specs.Stores.{Storer, Storing, store_all, emits, Puts, rest}
use Rattle.boundary.specs.Walk.{Holds, MoreWords, Settled, Swept, SixteenLeft, sixteen_left, Held}
use Rattle.boundary.specs.declared.Cursor.{Cursor}
use Rattle.boundary.specs.declared.Sweep.{Sweep}
use Rattle.boundary.proofs.Moving.{Step, rest-one, moved}
use Rattle.boundary.proofs.Stretches.{both-step}

-- ---- one boundary

pub byte-bit : (t : Bool) → from_bool t ≡ bit t
byte-bit true = refl
byte-bit false = refl

pub byte-changes : (u v : Bool) → from_bool (not (beq u v)) ≡ bit (changes u v)
byte-changes true true = refl
byte-changes true false = refl
byte-changes false true = refl
byte-changes false false = refl

bit_le : (t : Bool) → bit t ≤ 1
bit_le true = omega arith
bit_le false = omega arith

emits-changes : (u v : Bool) (ws : List ℕ) → emits u v ws ≡ cond (changes u v) ws []
emits-changes true true ws = refl
emits-changes true false ws = refl
emits-changes false true ws = refl
emits-changes false false ws = refl

module _ (store : Storer) (room : ℕ → ℕ) (l : Storing store room) where
  -- the last word stored again, or the next one
  sweep-put : (u v : Bool) (last x k : ℕ) (out : List ℕ) → store out (k - 1) last ≡ out
      → Puts store u v (x ∷ []) k out (k + bit (changes u v)) (store out (k + bit (changes u v) - 1) (cond (changes u v) x last))
  sweep-put u v last x k out e =
      let c = emits-changes u v (x ∷ []) in
      record { next = rw c (next (changes u v)); written = rw c (written (changes u v)); same = l.same out _ _ }
    where
      next : (t : Bool) → k + bit t ≡ k + length (cond t (x ∷ []) [])
      next true = refl
      next false = refl

      written : (t : Bool) → store out (k + bit t - 1) (cond t x last) ≡ store_all store out k (cond t (x ∷ []) [])
      written true = let d : k + 1 - 1 ≡ k = omega arith in rw d
      written false = rw (add-zero k) e

-- the word at an index that may have stepped on
pub word_at : (ws : List ℕ) (i x x1 : ℕ) (t : Bool) → x ≡ get_or ws i 0 → x1 ≡ get_or ws (i + 1) 0 → cond t x1 x ≡ get_or ws (i + bit t) 0
word_at ws i x x1 true e d = d
word_at ws i x x1 false e d = rw (add-zero i) e

module _ (store : Storer) (room : ℕ → ℕ) (z : Storing store room) (op : Bool → Bool → Bool) (a b : List ℕ) (s : Sweep) (before : List ℕ) (l : Holds store a b s before)
    (m : ℕ) (em : m ≡ from_bool (leb s.x s.y)) (n : ℕ) (en : n ≡ from_bool (leb s.y s.x)) (w : Bool) (ew : w ≡ op (odd_at (s.at.i + m)) (odd_at (s.at.j + n)))
    (d : ℕ) (ed : d ≡ from_bool (not (beq s.at.was w)))
    (x1 : ℕ) (ex : x1 ≡ get_or a (s.at.i + m + 1) 0) (y1 : ℕ) (ey : y1 ≡ get_or b (s.at.j + n + 1) 0)
    (r : Sweep) (p : ℕ) (ep : p ≡ s.at.k + d - 1) (out : List ℕ) (eo : out ≡ store before p r.last) where
  pub swept : Settled s (record { i = s.at.i + m; j = s.at.j + n; k = s.at.k + d; was = w }) x1 y1 r → Swept store op a b s before r out
  swept u =
      let ei : r.at.i ≡ s.at.i + bit (leb s.x s.y) = rw (u.place, em, byte-bit (leb s.x s.y)) in
      let ej : r.at.j ≡ s.at.j + bit (leb s.y s.x) = rw (u.place, en, byte-bit (leb s.y s.x)) in
      let ek : s.at.k + d ≡ s.at.k + bit (changes s.at.was w) = rw (ed, byte-changes s.at.was w) in
      record {
        left = ei;
        right = ej;
        state = rw u.place ew;
        put = rw (eo, ep, u.last, u.place, ek) (sweep-put store room z s.at.was w s.last (min s.x s.y) s.at.k before l.last);
        holds = record {
          x = rw ei (u.x ∙ word_at a s.at.i s.x s.x1 (leb s.x s.y) l.x l.x1);
          y = rw ej (u.y ∙ word_at b s.at.j s.y s.y1 (leb s.y s.x) l.y l.y1);
          x1 = u.x1 ∙ ex ∙ rw u.place;
          y1 = u.y1 ∙ ey ∙ rw u.place;
          last = rw (eo, ep, u.place) (z.again before (s.at.k + d - 1) r.last r.last);
        };
      }

-- ---- it is the next one

passed : (x y : ℕ) → bit (leb x y) ≡ bit (eqb (min x y) x)
passed x y = ⊎_elim (λ h. rw (h.0, min-eq_left h.1, eq-eqb x x refl)) (λ h. rw (h.0, min-eq_right (down h.1), ne_eqb y x (other h.1))) (split-le x y)
  where
    down : y < x → y ≤ x
    down h = omega arith

    other : y < x → y ≡ x → ⊥
    other h e = omega arith

pub next-step : (a b : List ℕ) (i j x y i' j' : ℕ) → x ≡ get_or a i 0 → y ≡ get_or b j 0 → i < length a → j < length b
    → i' ≡ i + bit (leb x y) → j' ≡ j + bit (leb y x) → Step a b i j (min x y) i' j'
next-step a b i j x y i' j' ex ey h k ei ej =
    rw (← ex, ← ey) at (both-step a b i j h k i' (rw (← ex, ← ey) (ei ∙ rw (passed x y))) j' (rw (← ex, ← ey) (ej ∙ rw (min_comm x y) (rw (passed y x)))))

pub steps_on : (x y : ℕ) → 1 ≤ bit (leb x y) + bit (leb y x)
steps_on x y = ⊎_elim (λ h. rw h.0 (omega arith)) (λ h. rw (le-leb y x (down h.1)) (omega arith)) (split-le x y)
  where
    down : y < x → y ≤ x
    down h = omega arith

-- ---- the loop

both_true : (p q : Bool) → p && q ≡ true → (p ≡ true) × (q ≡ true)
both_true true q e = (refl, e)
both_true false q e = absurd (true≢false (sym e))

-- sixteen boundaries are left
module _ (m n : ℕ) (t : Cursor) (len : ℕ) where
  pub sixteen-left : (k l : ℕ) → k ≡ m → l ≡ n → (r : Bool) → r ≡ sixteen_left k l t len → r ≡ true → SixteenLeft m n t len
  unfolding sixteen_left
  sixteen-left k l ek el r e d =
      let h = both_true (leb (t.i + 18) m) (leb (t.j + 18) n && leb (t.k + 16) len) (rw (ek, el) at (sym e ∙ d)) in
      let l = both_true (leb (t.j + 18) n) (leb (t.k + 16) len) h.1 in
      record { left = omega (arith, leb-true (t.i + 18) m h.0); right = omega (arith, leb-true (t.j + 18) n l.0); room = leb-true (t.k + 16) len l.1 }

module _ (store : Storer) (a b : List ℕ) (t : Cursor) (out : List ℕ) (p : ℕ) (e : p ≡ t.k - 1) (last : ℕ) (el : store out p last ≡ out)
    (x : ℕ) (ex : x ≡ get_or a t.i 0) (y : ℕ) (ey : y ≡ get_or b t.j 0) (x1 : ℕ) (ex1 : x1 ≡ get_or a (t.i + 1) 0) (y1 : ℕ) (ey1 : y1 ≡ get_or b (t.j + 1) 0) where
  pub held : Held store a b t out (record { at = t; last = last; x = x; y = y; x1 = x1; y1 = y1 })
  held = record { place = refl; holds = record { x = ex; y = ey; x1 = ex1; y1 = ey1; last = rw e at el } }

-- n boundaries from f on
pub record Sweeping (store : Storer) (room : ℕ → ℕ) (op : Bool → Bool → Bool) (a b : List ℕ) (f : Sweep) (out₀ : List ℕ) (n : ℕ) (s : Sweep) (out : List ℕ) : Type 0 where
  pub few : n ≤ 16
  pub more_left : f.at.i + 17 < length a
  pub more-right : f.at.j + 17 < length b
  pub room-left : f.at.k + 16 ≤ room (length out₀)
  pub small : f.at.k < 2 ^ 62
  pub holds : Holds store a b s out
  pub left : s.at.i ≤ f.at.i + n
  pub right-most : s.at.j ≤ f.at.j + n
  pub place : s.at.k ≤ f.at.k + n
  pub further : f.at.i + f.at.j + n ≤ s.at.i + s.at.j
  pub state : s.at.was ≡ op (odd_at s.at.i) (odd_at s.at.j)
  pub same : length out ≡ length out₀
  pub number : s.at.k + length (rest op a b s.at.i s.at.j) ≡ f.at.k + length (rest op a b f.at.i f.at.j)
  pub words : store_all store out s.at.k (rest op a b s.at.i s.at.j) ≡ store_all store out₀ f.at.k (rest op a b f.at.i f.at.j)

module _ (store : Storer) (room : ℕ → ℕ) (op : Bool → Bool → Bool) (a b out₀ : List ℕ) (f : Sweep) where
  module _ (n : ℕ) (s : Sweep) (out : List ℕ) (c : Sweeping store room op a b f out₀ n s out) where
    pub sweeping-more : n < 16 → MoreWords (length a) (length b) s
    sweeping-more h = record { left = omega (arith, c.left, c.more_left); right = omega (arith, c.right-most, c.more-right) }

    pub sweeping-next : n < 16 → (r : Sweep) (out' : List ℕ) → Swept store op a b s out r out' → Sweeping store room op a b f out₀ (n + 1) r out'
    sweeping-next h r out' u =
        let i = sweeping-more h in
        let l = c.holds in
        let v = u.put in
        let on = steps_on s.x s.y in
        let st = next-step a b s.at.i s.at.j s.x s.y r.at.i r.at.j l.x l.y (omega (arith, i.left))
        (omega (arith, i.right)) u.left u.right in
        let sl = st.left in
        let sr = st.right in
        let m = moved store op a b s.at r.at out out' (min s.x s.y ∷ []) s.at.was r.at.was
        (rw (c.state, u.state) (rest-one op a b s.at.i s.at.j (min s.x s.y) r.at.i r.at.j st)) v (omega (arith, u.left, u.right, on)) sl.high sr.high u.state in
        record {
          few = omega arith;
          more_left = c.more_left;
          more-right = c.more-right;
          room-left = c.room-left;
          small = c.small;
          holds = u.holds;
          left = omega (arith, c.left, u.left, bit_le (leb s.x s.y));
          right-most = omega (arith, c.right-most, u.right, bit_le (leb s.y s.x));
          place = omega (arith, c.place, v.next, emits-few s.at.was r.at.was (min s.x s.y));
          further = omega (arith, c.further, u.left, u.right, on);
          state = u.state;
          same = m.same ∙ c.same;
          number = m.number ∙ c.number;
          words = m.words ∙ c.words;
        }
      where
        emits-few : (u v : Bool) (x : ℕ) → length (emits u v (x ∷ [])) ≤ 1
        emits-few true true x = omega arith
        emits-few true false x = omega arith
        emits-few false true x = omega arith
        emits-few false false x = omega arith
