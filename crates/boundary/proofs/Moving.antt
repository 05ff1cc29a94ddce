-- How a merge goes on: by one boundary, or by a stretch of words at each of which the same indices step on.
use mathlib.Core.Path.{◌≡◌, refl, sym, ap, ◌∙◌}
use mathlib.Core.Bool.{Bool, true, false}
use mathlib.Core.List.{List, [], ◌∷◌, ◌++◌}
use Prim.Native.Nat.{ℕ, zero, suc, ◌+◌, ◌%◌, ◌≤◌, ◌<◌}
use native.Mathlib.Nat.{add-zero}
use native.Mathlib.Omega.{arith}
use lib.ListN.{length, drop, get_or, length-append}
use lib.Seq.{slice, slice_empty, slice-cons}
use Rattle.boundary.specs.Merge.{least, emit}
use Rattle.boundary.specs.Values.{odd_at}
use Rattle.boundary.specs.Stores.{Storer, emits, Puts, rest}
use Rattle.boundary.specs.Walk.{Moved}
use Rattle.boundary.specs.declared.Cursor.{Cursor}
use Rattle.boundary.proofs.Combining.{merge_step}
use Rattle.boundary.proofs.Fronts.{Past}
use Rattle.boundary.proofs.Stores.{stores-append}

-- the boundary x is next at i and j, and past it are i' and j'
pub record Step (a b : List ℕ) (i j x i' j' : ℕ) : Type 0 where
  pub least : x ≡ least (drop i a) (drop j b)
  pub left : Past a i x i'
  pub right : Past b j x j'

emit-emits : (u v : Bool) (x : ℕ) (ws more : List ℕ) → emit u v x (emits v u ws ++ more) ≡ emits u v (x ∷ ws) ++ more
emit-emits true true x ws more = refl
emit-emits true false x ws more = refl
emit-emits false true x ws more = refl
emit-emits false false x ws more = refl

emits-nil : (u v : Bool) → emits u v [] ≡ []
emits-nil true true = refl
emits-nil true false = refl
emits-nil false true = refl
emits-nil false false = refl

pub odd-two : (n m : ℕ) → odd_at (n + suc (suc m)) ≡ odd_at (n + m)
odd-two n m = let e : (n + suc (suc m)) % 2 ≡ (n + m) % 2 = omega arith in rw e

module _ (op : Bool → Bool → Bool) (a b : List ℕ) where
  rest-step : (i j x i' j' : ℕ) → Step a b i j x i' j'
      → rest op a b i j ≡ emit (op (odd_at i) (odd_at j)) (op (odd_at i') (odd_at j')) x (rest op a b i' j')
  rest-step i j x i' j' s =
      let l = s.left in
      let r = s.right in
      rw (← s.least, ← l.state, ← r.state, ← l.rest, ← r.rest) at (merge_step op (odd_at i) (odd_at j) (drop i a) (drop j b))

  pub rest-one : (i j x i' j' : ℕ) → Step a b i j x i' j'
      → rest op a b i j ≡ emits (op (odd_at i) (odd_at j)) (op (odd_at i') (odd_at j')) (x ∷ []) ++ rest op a b i' j'
  rest-one i j x i' j' s =
      let u = op (odd_at i) (odd_at j) in
      let v = op (odd_at i') (odd_at j') in
      rest-step i j x i' j' s ∙ rw (emits-nil v u) at (emit-emits u v x [] (rest op a b i' j'))

  -- the operation changes at each word of a stretch or at none, since each index steps on at each word or at none
  pub rest-stretch : (ws : List ℕ) (n from to : ℕ) (i j : ℕ → ℕ) → from + n ≡ to → to ≤ length ws
      → ((m : ℕ) → m < n → Step a b (i m) (j m) (get_or ws (from + m) 0) (i (suc m)) (j (suc m)))
      → ((m : ℕ) → odd_at (i (suc (suc m))) ≡ odd_at (i m)) → ((m : ℕ) → odd_at (j (suc (suc m))) ≡ odd_at (j m))
      → rest op a b (i 0) (j 0) ≡ emits (op (odd_at (i 0)) (odd_at (j 0))) (op (odd_at (i 1)) (odd_at (j 1))) (slice from to ws) ++ rest op a b (i n) (j n)
  rest-stretch ws zero from to i j e h s p q =
      let d : from ≡ to = omega arith in
      rw (d, slice_empty to ws, emits-nil (op (odd_at (i 0)) (odd_at (j 0))) (op (odd_at (i 1)) (odd_at (j 1))))
  rest-stretch ws (suc n) from to i j e h s p q =
      let c = slice-cons from to ws 0 (omega arith) h in
      let first = rest-step (i 0) (j 0) (get_or ws from 0) (i 1) (j 1) (rw (add-zero from) at (s 0 (omega arith))) in
      let others = rest-stretch ws n (suc from) to (λ (m : ℕ). i (suc m)) (λ (m : ℕ). j (suc m)) (omega arith) h
      (λ m k. rw (shift m) at (s (suc m) (omega arith))) (λ m. p (suc m)) (λ m. q (suc m)) in
      first ∙ rw (p 0, q 0) at (ap (emit (op (odd_at (i 0)) (odd_at (j 0))) (op (odd_at (i 1)) (odd_at (j 1))) (get_or ws from 0)) others)
      ∙ emit-emits (op (odd_at (i 0)) (odd_at (j 0))) (op (odd_at (i 1)) (odd_at (j 1))) (get_or ws from 0) (slice (suc from) to ws) (rest op a b (i (suc n)) (j (suc n)))
      ∙ sym (rw c)
    where
      shift : (m : ℕ) → from + suc m ≡ suc from + m
      shift m = omega arith

-- what is to come is some words and then what is to come further on: with these stored, the merge has gone on
pub moved : (store : Storer) (op : Bool → Bool → Bool) (a b : List ℕ) (t r : Cursor) (before out ws : List ℕ) (u v : Bool)
    → rest op a b t.i t.j ≡ emits u v ws ++ rest op a b r.i r.j → Puts store u v ws t.k before r.k out
    → t.i + t.j < r.i + r.j → r.i ≤ length a → r.j ≤ length b → r.was ≡ op (odd_at r.i) (odd_at r.j)
    → Moved store op a b t before r out
moved store op a b t r before out ws u v e p f l h s =
    record {
      further = f;
      left = l;
      right = h;
      state = s;
      same = p.same;
      number = rw e (omega (arith, p.next, length-append (emits u v ws) (rest op a b r.i r.j)));
      words = rw (e, p.written, p.next) (sym (stores-append store before t.k (emits u v ws) (rest op a b r.i r.j)));
    }
