-- Stretches: where they end, and that each of their words is the next boundary.
use mathlib.Core.Path.{◌≡◌, refl, sym, ◌∙◌}
use mathlib.Core.Bool.{true, false, true≢false}
use mathlib.Core.Logic.{⊎_elim}
use mathlib.Core.List.{List, [], ◌∷◌}
use Prim.Native.Nat.{ℕ, zero, suc, ◌+◌, ◌≤◌, ◌<◌, min}
use native.Mathlib.Nat.{add-zero, min_comm, min-eq_left}
use native.Mathlib.Omega.{arith}
use borrow.Author.Tests.{eq-eqb, ne_eqb, ltb-true, ltb-false}
use lib.Dec.{eqb}
use lib.ListN.{length, drop, get_or}
use Rattle.std.specs.Prelude.{Option, None, Some}
use Rattle.std.specs.List.{slice_get}
use Rattle.std.proofs.lemmas.Option.{slice_get-get_or, slice_get_within, get_or_from_slice_get}
use Rattle.fields.specs.Counting.{bit}
use Rattle.fields.proofs.Tests.{split-eq}
use Rattle.boundary.specs.Merge.{least}
use Rattle.boundary.specs.Values.{lesser, alone}
use Rattle.boundary.specs.Walk.{Below, Same}
use Rattle.boundary.proofs.Fronts.{lesser-least, hits, past-front}
use Rattle.boundary.proofs.Moving.{Step}

-- ---- where a stretch ends

module _ (a b : List ℕ) (i j : ℕ) where
  -- n words of the most that there can be
  pub record Sharing (most n : ℕ) : Type 0 where
    pub inside-left : i + most ≤ length a
    pub inside-right : j + most ≤ length b
    pub bound : n ≤ most
    pub same : Same a b i j n

-- ---- the next boundary

least-swap : (a b : List ℕ) → least a b ≡ least b a
least-swap [] [] = refl
least-swap [] (y ∷ b) = refl
least-swap (x ∷ a) [] = refl
least-swap (x ∷ a) (y ∷ b) = min_comm x y

-- what the tests say of the next word and of the steps of the two indices
record Chosen (f g : Option ℕ) (w m n : ℕ) : Type 0 where
  word : w ≡ lesser f g
  first : m ≡ bit (hits f (lesser f g))
  second : n ≡ bit (hits g (lesser f g))

chosen-left : (x : ℕ) (g : Option ℕ) → alone (Some x) g ≡ true → Chosen (Some x) g x 1 0
chosen-left x (Some y) e =
    let h = ltb-true x y e in
    let l : lesser (Some x) (Some y) ≡ x = min-eq_left (omega arith) in
    record { word = sym l; first = rw (l, eq-eqb x x refl); second = rw (l, ne_eqb x y (λ k. omega arith)) }
chosen-left x None e = record { word = refl; first = rw (eq-eqb x x refl); second = refl }

module _ (a b : List ℕ) (i j : ℕ) (li : i ≤ length a) (lj : j ≤ length b) where
  step_of : (x : ℕ) → x ≡ lesser (slice_get a i) (slice_get b j) → (i' : ℕ) → i' ≡ i + bit (hits (slice_get a i) x)
      → (j' : ℕ) → j' ≡ j + bit (hits (slice_get b j) x) → Step a b i j x i' j'
  step_of x e i' ei j' ej = record { least = e ∙ lesser-least a b i j; left = past-front a i x i' li ei; right = past-front b j x j' lj ej }

  chosen-step : (x m n : ℕ) → Chosen (slice_get a i) (slice_get b j) x m n → Step a b i j x (i + m) (j + n)
  chosen-step x m n c = step_of x c.word (i + m) (rw (c.word, ← c.first)) (j + n) (rw (c.word, ← c.second))

-- a word in both
pub both-step : (a b : List ℕ) (i j : ℕ) → i < length a → j < length b → (i' : ℕ) → i' ≡ i + bit (eqb (min (get_or a i 0) (get_or b j 0)) (get_or a i 0))
    → (j' : ℕ) → j' ≡ j + bit (eqb (min (get_or a i 0) (get_or b j 0)) (get_or b j 0)) → Step a b i j (min (get_or a i 0) (get_or b j 0)) i' j'
both-step a b i j h k i' ei j' ej =
    let p = slice_get-get_or a i 0 h in
    let q = slice_get-get_or b j 0 k in
    step_of a b i j (omega arith) (omega arith) (min (get_or a i 0) (get_or b j 0)) (rw (p, q)) i' (rw p ei) j' (rw q ej)

pub step-swap : (a b : List ℕ) (i j x i' j' : ℕ) → Step a b i j x i' j' → Step b a j i x j' i'
step-swap a b i j x i' j' s = record { least = s.least ∙ least-swap (drop i a) (drop j b); left = s.right; right = s.left }

-- ---- a stretch

missing-past : (ws : List ℕ) (i : ℕ) → slice_get ws i ≡ None → length ws ≤ i
missing-past [] i e = omega arith
missing-past (w ∷ ws) zero e = absurd (no e)
  where
    no : Some w ≡ None → ⊥
    no e = cc
missing-past (w ∷ ws) (suc i) e = let h = missing-past ws i e in omega arith

module _ (a b : List ℕ) (i j n : ℕ) (lj : j ≤ length b) (f g : Option ℕ) (p : f ≡ slice_get a i) (q : g ≡ slice_get b j)
    (h : alone f g ≡ true) (s : Below a (i + 1) g (i + n)) where
  -- there is a word, and it leads
  first : (i < length a) × (alone (Some (get_or a i 0)) g ≡ true)
  first = go f p h
    where
      go : (f : Option ℕ) → f ≡ slice_get a i → alone f g ≡ true → (i < length a) × (alone (Some (get_or a i 0)) g ≡ true)
      go None e d = absurd (true≢false (sym d))
      go (Some x) e d = (slice_get_within a i x (sym e), rw (get_or_from_slice_get a i x 0 (sym e)) d)

  ahead : (m : ℕ) → i ≤ m → m < i + n → alone (Some (get_or a m 0)) g ≡ true
  ahead m l k = ⊎_elim (λ c. rw c.1 first.1) (λ c. s.each m (omega (arith, l, c.1)) k) (split-eq m i)

  -- each word of a stretch is the next boundary
  pub ahead-steps : (m : ℕ) → m < n → Step a b (i + m) j (get_or a (i + m) 0) (i + suc m) j
  ahead-steps m k =
      let x = get_or a (i + m) 0 in
      let c = chosen-left x g (ahead (i + m) (omega arith) (omega arith)) in
      let t = slice_get-get_or a (i + m) 0 (omega (arith, s.high)) in
      let y = chosen-step a b (i + m) j (omega (arith, s.high)) lj x 1 0 (rw (t, ← q) c) in
      rw (add-zero j, next) at y
    where
      next : i + m + 1 ≡ i + suc m
      next = omega arith

module _ (a b : List ℕ) (i j : ℕ) (f g : Option ℕ) (p : f ≡ slice_get a i) (q : g ≡ slice_get b j) (some : i + j < length a + length b)
    (h : alone f g ≡ false) (k : alone g f ≡ false) where
  -- where no list leads there is a word in both, and it is the same
  pub met_some : (i < length a) × (j < length b) × (get_or a i 0 ≡ get_or b j 0)
  met_some = go f p g q h k
    where
      go : (f : Option ℕ) → f ≡ slice_get a i → (g : Option ℕ) → g ≡ slice_get b j → alone f g ≡ false → alone g f ≡ false
          → (i < length a) × (j < length b) × (get_or a i 0 ≡ get_or b j 0)
      go (Some x) e (Some y) d u v = (
        slice_get_within a i x (sym e),
        slice_get_within b j y (sym d),
        rw (get_or_from_slice_get a i x 0 (sym e), get_or_from_slice_get b j y 0 (sym d)) (omega (arith, ltb-false x y u, ltb-false y x v)),
      )
      go (Some x) e None d u v = absurd (true≢false u)
      go None e (Some y) d u v = absurd (true≢false v)
      go None e None d u v = absurd (omega (arith, some, missing-past a i (sym e), missing-past b j (sym d)))

-- each word that the lists share is a boundary of both
pub shared_step : (a b : List ℕ) (i j : ℕ) → i < length a → j < length b → get_or a i 0 ≡ get_or b j 0 → Step a b i j (get_or a i 0) (i + 1) (j + 1)
shared_step a b i j h k e =
    let x = get_or a i 0 in
    let y = get_or b j 0 in
    let l : min x y ≡ x = min-eq_left (omega arith) in
    rw l at (both-step a b i j h k (i + 1) (rw (l, eq-eqb x x refl)) (j + 1) (rw (l, eq-eqb x y e)))

module _ (a b : List ℕ) (i j : ℕ) (f g : Option ℕ) (p : f ≡ slice_get a i) (q : g ≡ slice_get b j) (some : i + j < length a + length b)
    (h : alone f g ≡ false) (h' : alone g f ≡ false)
    (n : ℕ) (s : Same a b (i + 1) (j + 1) n) where
  pub shared-steps : (m : ℕ) → m < 1 + n → Step a b (i + m) (j + m) (get_or a (i + m) 0) (i + suc m) (j + suc m)
  shared-steps m k =
      let l = met m k in
      rw (next i, next j) at (shared_step a b (i + m) (j + m) l.0 l.1 l.2)
    where
      next : (x : ℕ) → x + m + 1 ≡ x + suc m
      next x = omega arith

      met : (m : ℕ) → m < 1 + n → (i + m < length a) × (j + m < length b) × (get_or a (i + m) 0 ≡ get_or b (j + m) 0)
      met zero k = rw (add-zero i, add-zero j) (met_some a b i j f g p q some h h')
      met (suc m) k =
          let l : m < n = omega arith in
          rw (← (up i m), ← (up j m)) (omega (arith, s.left), omega (arith, s.right), s.each m l)
        where
          up : (x m : ℕ) → x + 1 + m ≡ x + suc m
          up x m = omega arith
