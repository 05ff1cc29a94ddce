-- How the merges go on, one law for each way through the code, and their loop.
use mathlib.Core.Path.{◌≡◌, refl, sym, ◌∙◌}
use mathlib.Core.Bool.{Bool, true, false}
use mathlib.Core.List.{List, []}
use Prim.Native.Nat.{ℕ, suc, ◌+◌, ◌-◌, ◌≤◌, ◌<◌, ◌^◌}
use native.Mathlib.Nat.{add-zero}
use native.Mathlib.Omega.{arith}
use lib.ListN.{length, drop, set, length-drop}
use lib.Seq.{slice}
use Rattle.boundary.specs.Merge.{combine}
use Rattle.std.specs.Prelude.{Option}
use Rattle.std.specs.List.{slice_get}
use Rattle.fields.specs.Answers.{Stored}
use Rattle.boundary.specs.Values.{odd_at, alone}
use Rattle.boundary.specs.Stores.{StoredWords, StoredBy, Storer, set_bytes, store_all, rest}
use Rattle.boundary.specs.Walk.{Between, PassedLeft, PassedRight, PassedBoth, Moved}
use Rattle.boundary.specs.declared.Cursor.{Cursor}
use Rattle.boundary.proofs.Combining.{merge-nil, combine-length}
use Rattle.boundary.proofs.Stores.{stores_words, stores-bytes}
use Rattle.boundary.proofs.Moving.{odd-two, rest-stretch, moved}
use Rattle.boundary.proofs.Stretches.{step-swap, ahead-steps, shared-steps}

-- ---- a stretch

module _ (store : Storer) (op : Bool → Bool → Bool) (a b : List ℕ) (t : Cursor) (z : Between op a b t) (f g : Option ℕ) (p : f ≡ slice_get a t.i) (q : g ≡ slice_get b t.j) where
  module _ (before : List ℕ) (r : Cursor) (out : List ℕ) where
    pub moved-left : (l : Bool) → l ≡ alone f g → l ≡ true → PassedLeft store op a g t before r out → Moved store op a b t before r out
    moved-left l el et u =
        let x = u.each in
        let n = r.i - t.i in
        let v : t.i + n ≡ r.i = omega (arith, x.low) in
        let c = rest-stretch op a b a n t.i r.i (λ m. t.i + m) (λ m. t.j) v x.high
        (ahead-steps a b t.i t.j n z.right f g p q (sym el ∙ et) (rw v x)) (λ m. odd-two t.i m) (λ m. refl) in
        moved store op a b t r before out (slice t.i r.i a) t.was (op (odd_at (t.i + 1)) (odd_at t.j)) (rw (z.state, u.stay) (rw (add-zero t.i, v) at c)) u.put
        (omega (arith, x.low, u.stay)) x.high (rw u.stay z.right) u.state

    pub moved-right : (l : Bool) → l ≡ alone g f → l ≡ true → PassedRight store op b f t before r out → Moved store op a b t before r out
    moved-right l el et u =
        let x = u.each in
        let n = r.j - t.j in
        let v : t.j + n ≡ r.j = omega (arith, x.low) in
        let on = ahead-steps b a t.j t.i n z.left g f q p (sym el ∙ et) (rw v x) in
        let c = rest-stretch op a b b n t.j r.j (λ m. t.i) (λ m. t.j + m) v x.high
        (λ m k. step-swap b a (t.j + m) t.i _ (t.j + suc m) t.i (on m k)) (λ m. refl) (λ m. odd-two t.j m) in
        moved store op a b t r before out (slice t.j r.j b) t.was (op (odd_at t.i) (odd_at (t.j + 1))) (rw (z.state, u.stay) (rw (add-zero t.j, v) at c)) u.put
        (omega (arith, x.low, u.stay)) (rw u.stay z.left) x.high u.state

    pub moved-both : (l : Bool) → l ≡ alone f g → l ≡ false → (m : Bool) → m ≡ alone g f → m ≡ false
        → PassedBoth store op a b t before r out → Moved store op a b t before r out
    moved-both l el nl m em nm u =
        let n = r.i - t.i - 1 in
        let v : t.i + (1 + n) ≡ r.i = omega (arith, u.low) in
        let y : t.j + (1 + n) ≡ r.j = omega (arith, u.low, u.level) in
        let y' : t.j + suc n ≡ r.j = omega (arith, u.low, u.level) in
        let on = shared-steps a b t.i t.j f g p q z.some (sym el ∙ nl) (sym em ∙ nm) n u.each in
        let c = rest-stretch op a b a (1 + n) t.i r.i (λ m. t.i + m) (λ m. t.j + m) v u.high on (λ m. odd-two t.i m) (λ m. odd-two t.j m) in
        let last = on n (omega arith) in
        moved store op a b t r before out (slice t.i r.i a) t.was (op (odd_at (t.i + 1)) (odd_at (t.j + 1))) (rw z.state (rw (add-zero t.i, add-zero t.j, v, y) at c)) u.put
        (omega (arith, u.low, u.level)) u.high (rw y' at last.right.high) u.state

-- ---- the loop: what is still to come, written after what is written, is the combination

pub record Merging (store : Storer) (op : Bool → Bool → Bool) (a b out₀ : List ℕ) (total : ℕ) (t : Cursor) (out : List ℕ) : Type 0 where
  pub left : t.i ≤ length a
  pub right : t.j ≤ length b
  pub full : total ≡ length a + length b
  pub small : total < 2 ^ 62
  pub bound : t.k ≤ total
  pub room : length out ≡ length out₀
  pub state : t.was ≡ op (odd_at t.i) (odd_at t.j)
  pub number : t.k + length (rest op a b t.i t.j) ≡ length (combine op a b)
  pub words : store_all store out t.k (rest op a b t.i t.j) ≡ store_all store out₀ 0 (combine op a b)

module _ (store : Storer) (op : Bool → Bool → Bool) (a b out₀ : List ℕ) (was : Bool) (d : was ≡ op (odd_at 0) (odd_at 0)) where
  pub merging_start : (m n : ℕ) → m ≡ length a → n ≡ length b → length a + length b < 2 ^ 62
      → Merging store op a b out₀ (m + n) (record { i = 0; j = 0; k = 0; was = was }) out₀
  unfolding combine
  merging_start m n ea eb h =
      record {
        left = omega arith;
        right = omega arith;
        full = omega arith;
        small = omega arith;
        bound = omega arith;
        room = refl;
        state = d;
        number = omega arith;
        words = refl;
      }

module _ (store : Storer) (op : Bool → Bool → Bool) (a b out₀ : List ℕ) (total : ℕ) (t : Cursor) (out : List ℕ) (m : Merging store op a b out₀ total t out) where
  module _ (h : t.i + t.j < total) (r : Cursor) (out' : List ℕ) (u : Moved store op a b t out r out') where
    pub merging-next : Merging store op a b out₀ total r out'
    merging-next =
        record {
          left = u.left;
          right = u.right;
          full = m.full;
          small = m.small;
          bound = omega (arith, u.number, m.number, combine-length op a b, m.full);
          room = u.same ∙ m.room;
          state = u.state;
          number = u.number ∙ m.number;
          words = u.words ∙ m.words;
        }

  merging-end : total ≤ t.i + t.j → (t.k ≡ length (combine op a b)) × (out ≡ store_all store out₀ 0 (combine op a b))
  merging-end h =
      let e : rest op a b t.i t.j ≡ [] =
      merge-nil op (odd_at t.i) (odd_at t.j) (drop t.i a) (drop t.j b) (simp length-drop (omega (arith, m.left, m.right, m.full))) in
      (omega (arith, rw e at m.number), rw e at m.words)

  pub merged : total ≤ t.i + t.j → StoredBy store (combine op a b) out₀ t.k out
  merged h = let e = merging-end h in record { number = e.0; written = e.1 }

-- as words, and as bytes
module _ (op : Bool → Bool → Bool) (a b c d before : List ℕ) (n : ℕ) (out : List ℕ) (e : a ≡ c) (f : b ≡ d) where
  pub by-words : StoredBy set (combine op a b) before n out → Stored (combine op c d) before n out
  by-words s = rw (← e, ← f) (record { number = s.number; written = s.written ∙ stores_words before 0 (combine op a b) })

  pub by-bytes : StoredBy set_bytes (combine op a b) before n out → StoredWords (combine op c d) before n out
  by-bytes s = rw (← e, ← f) (record { number = s.number; written = s.written ∙ stores-bytes before 0 (combine op a b) })
