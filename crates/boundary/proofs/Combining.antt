-- The merge of boundaries: what it lists, row by row, for any operation. Each law is one induction on its boundaries; a step is one law of a list,
-- `inside-step`, used for both lists.
use mathlib.Core.Path.{◌≡◌, refl, sym, ap, ◌∙◌, subst, subst⁻¹}
use mathlib.Core.Bool.{Bool, true, false, cond}
use mathlib.Core.Logic.{◌⊎◌, inl, inr, ⊎_elim}
use mathlib.Core.List.{List, [], ◌∷◌}
use Prim.Native.Nat.{ℕ, zero, suc, ◌+◌, ◌≤◌, ◌<◌}
use native.Mathlib.Nat.{le_refl, min-le_left, min-le_right, min-eq_left, min-eq_right}
use native.Mathlib.Omega.{arith}
use borrow.Author.Tests.{lt-leb, eq-eqb}
use lib.Dec.{leb}
use lib.ListN.{length}
use Rattle.fields.proofs.Tests.{split-le, split-eq, cond_same}
use Rattle.run_list.specs.Runs.{has, Valid}
use Rattle.run_list.specs.Rising.{From, All, inside, ends}
use Rattle.boundary.specs.Merge.{least, pop, flip, emit, boundaries, merge, combine, either}
use Rattle.run_list.proofs.Boundaries.{from-weaken, inside-below, valid-from, valid-ends, from-valid, has-inside, unique}

cond-op : (op : Bool → Bool → Bool) (t x p y q : Bool) → cond t (op x y) (op p q) ≡ op (cond t x p) (cond t y q)
cond-op op true x p y q = refl
cond-op op false x p y q = refl

-- ---- one list

pop-from : (x : ℕ) (ws : List ℕ) → From x ws → From (suc x) (pop x ws)
pop-from x [] f = tt
pop-from x (y ∷ ws) f =
    ⊎_elim (λ e. rw e.0 (from-weaken ws (omega (arith, e.1)) f.1))
    (λ e. rw e.0 (omega (arith, e.1, f.0), f.1)) (split-eq x y)

pop-le : (x : ℕ) (ws : List ℕ) → length (pop x ws) ≤ length ws
pop-le x [] = le_refl 0
pop-le x (y ∷ ws) = ⊎_elim (λ e. rw e.0 (omega arith)) (λ e. rw e.0 (omega arith)) (split-eq x y)

pop-hit : (x : ℕ) (ws : List ℕ) → pop x (x ∷ ws) ≡ ws
pop-hit x ws = rw (eq-eqb x x refl)

-- a step at x, which no word is below: from x on the state is that of the list past x
pub inside-step : (p : Bool) (x : ℕ) (ws : List ℕ) (r : ℕ) → From x ws → inside p ws r ≡ cond (leb x r) (inside (flip x ws p) (pop x ws) r) p
inside-step p x [] r f = sym (cond_same (leb x r) p)
inside-step p x (y ∷ ws) r f =
    ⊎_elim (λ e. rw e.0 (rw e.1))
    (λ e. rw e.0 (⊎_elim (λ h. rw h.0) (λ h. rw (h.0, lt-leb y r (omega (arith, h.1, f.0)))) (split-le x r))) (split-eq x y)

flip-ends : (p : Bool) (x : ℕ) (ws : List ℕ) → ends p ws ≡ ends (flip x ws p) (pop x ws)
flip-ends p x [] = refl
flip-ends p x (y ∷ ws) = ⊎_elim (λ e. rw e.0) (λ e. rw e.0) (split-eq x y)

-- ---- a boundary that is written or not

emit-same : (u : Bool) (x : ℕ) (ws : List ℕ) → emit u u x ws ≡ ws
emit-same true x ws = refl
emit-same false x ws = refl

same-state : (b : Bool) (x : ℕ) (ws : List ℕ) (r : ℕ) → From (suc x) ws → inside b ws r ≡ cond (leb x r) (inside b ws r) b
same-state b x ws r f =
    ⊎_elim (λ h. rw h.0) (λ h. rw h.0 (inside-below b ws (suc x) r f (omega (arith, h.1)))) (split-le x r)

pub emit-inside : (u v : Bool) (x : ℕ) (ws : List ℕ) (r : ℕ) → From (suc x) ws → inside u (emit u v x ws) r ≡ cond (leb x r) (inside v ws r) u
emit-inside true true x ws r f = same-state true x ws r f
emit-inside true false x ws r f = refl
emit-inside false true x ws r f = refl
emit-inside false false x ws r f = same-state false x ws r f

pub emit-ends : (u v : Bool) (x : ℕ) (ws : List ℕ) → ends u (emit u v x ws) ≡ ends v ws
emit-ends true true x ws = refl
emit-ends true false x ws = refl
emit-ends false true x ws = refl
emit-ends false false x ws = refl

pub emit-from : (u v : Bool) (x : ℕ) (ws : List ℕ) {lo : ℕ} → lo ≤ x → From (suc x) ws → From lo (emit u v x ws)
emit-from true true x ws h f = from-weaken ws (omega arith) f
emit-from true false x ws h f = (h, f)
emit-from false true x ws h f = (h, f)
emit-from false false x ws h f = from-weaken ws (omega arith) f

pub emit-length : (u v : Bool) (x : ℕ) (ws : List ℕ) → length (emit u v x ws) ≤ suc (length ws)
emit-length true true x ws = omega arith
emit-length true false x ws = omega arith
emit-length false true x ws = omega arith
emit-length false false x ws = omega arith

-- ---- the lesser first word

least-left : (a b : List ℕ) (lo : ℕ) → From lo a → From (least a b) a
least-left [] b lo f = tt
least-left (x ∷ a) [] lo f = (le_refl x, f.1)
least-left (x ∷ a) (y ∷ b) lo f = (min-le_left x y, f.1)

least-right : (a b : List ℕ) (lo : ℕ) → From lo b → From (least a b) b
least-right a [] lo f = tt
least-right [] (y ∷ b) lo f = (le_refl y, f.1)
least-right (x ∷ a) (y ∷ b) lo f = (min-le_right x y, f.1)

some : (a b : List ℕ) {lo : ℕ} → From lo a → From lo b → ((a ≡ []) × (b ≡ [])) ⊎ (lo ≤ least a b)
some [] [] f g = inl (refl, refl)
some [] (y ∷ b) f g = inr g.0
some (x ∷ a) [] f g = inr f.0
some (x ∷ a) (y ∷ b) f g = inr (omega (arith, f.0, g.0))

-- a step passes a word
pub shrink : (a b : List ℕ) (n : ℕ) → length a + length b ≤ suc n → length (pop (least a b) a) + length (pop (least a b) b) ≤ n
shrink [] [] n h = omega arith
shrink [] (y ∷ b) n h = rw (pop-hit y b) (omega (arith, h))
shrink (x ∷ a) [] n h = rw (pop-hit x a) (omega (arith, h))
shrink (x ∷ a) (y ∷ b) n h =
    ⊎_elim (λ e. rw (min-eq_left e.1, pop-hit x a) (omega (arith, h, pop-le x (y ∷ b))))
    (λ e. rw (min-eq_right (le_of e.1), pop-hit y b) (omega (arith, h, pop-le y (x ∷ a)))) (split-le x y)
  where
    le_of : y < x → y ≤ x
    le_of e = omega arith

-- ---- a fact of every word

module _ (P : ℕ → Type 0) where
  pop-all : (x : ℕ) (ws : List ℕ) → All P ws → All P (pop x ws)
  pop-all x [] h = tt
  pop-all x (y ∷ ws) h = ⊎_elim (λ e. rw e.0 h.1) (λ e. rw e.0 h) (split-eq x y)

  least-all : (a b : List ℕ) → All P a → All P b → (length a + length b ≤ 0) ⊎ P (least a b)
  least-all [] [] f g = inl (le_refl 0)
  least-all [] (y ∷ b) f g = inr g.0
  least-all (x ∷ a) [] f g = inr f.0
  least-all (x ∷ a) (y ∷ b) f g =
      ⊎_elim (λ e. inr (rw (min-eq_left e.1) f.0)) (λ e. inr (rw (min-eq_right (le_of e.1)) g.0)) (split-le x y)
    where
      le_of : y < x → y ≤ x
      le_of e = omega arith

  emit-all : (u v : Bool) (x : ℕ) (ws : List ℕ) → P x → All P ws → All P (emit u v x ws)
  emit-all true true x ws h f = f
  emit-all true false x ws h f = (h, f)
  emit-all false true x ws h f = (h, f)
  emit-all false false x ws h f = f

-- ---- the merge

module _ (op : Bool → Bool → Bool) where
  steps-nil : (n : ℕ) (p q : Bool) (a b : List ℕ) → length a + length b ≤ 0 → boundaries op n p q a b ≡ []
  steps-nil zero p q a b h = refl
  steps-nil (suc n) p q [] [] h = rw (steps-nil n p q [] [] h) (emit-same (op p q) 0 [])
  steps-nil (suc n) p q [] (y ∷ b) h = absurd (omega arith)
  steps-nil (suc n) p q (x ∷ a) b h = absurd (omega arith)

  -- boundaries past the last word change nothing
  steps-fuel : (n m : ℕ) (p q : Bool) (a b : List ℕ) → length a + length b ≤ n → length a + length b ≤ m → boundaries op n p q a b ≡ boundaries op m p q a b
  steps-fuel zero m p q a b h k = sym (steps-nil m p q a b h)
  steps-fuel (suc n) zero p q a b h k = steps-nil (suc n) p q a b k
  steps-fuel (suc n) (suc m) p q a b h k =
      let x = least a b in
      ap (emit (op p q) (op (flip x a p) (flip x b q)) x)
      (steps-fuel n m (flip x a p) (flip x b q) (pop x a) (pop x b) (shrink a b n h) (shrink a b m k))

  -- what the loop does in a flip
  pub merge_step : (p q : Bool) (a b : List ℕ) → let x = least a b in
      merge op p q a b ≡ emit (op p q) (op (flip x a p) (flip x b q)) x (merge op (flip x a p) (flip x b q) (pop x a) (pop x b))
  unfolding merge
  merge_step p q a b =
      let x = least a b in
      let n = length a + length b in
      steps-fuel n (suc n) p q a b (le_refl n) (omega arith)
      ∙ ap (emit (op p q) (op (flip x a p) (flip x b q)) x)
      (steps-fuel n (length (pop x a) + length (pop x b)) (flip x a p) (flip x b q) (pop x a) (pop x b) (shrink a b n (omega arith)) (le_refl _))

  pub merge-nil : (p q : Bool) (a b : List ℕ) → length a + length b ≤ 0 → merge op p q a b ≡ []
  unfolding merge
  merge-nil p q a b h = steps-nil (length a + length b) p q a b h

  steps-from : (n : ℕ) (p q : Bool) (a b : List ℕ) (lo : ℕ) → From lo a → From lo b → From lo (boundaries op n p q a b)
  steps-from zero p q a b lo f g = tt
  steps-from (suc n) p q a b lo f g =
      let x = least a b in
      let ih = steps-from n (flip x a p) (flip x b q) (pop x a) (pop x b) (suc x) (pop-from x a (least-left a b lo f)) (pop-from x b (least-right a b lo g)) in
      ⊎_elim
      (λ e. subst⁻¹ (λ (l : List ℕ). From lo l) (steps-nil (suc n) p q a b (rw (e.0, e.1) (le_refl 0))) tt)
      (λ h. emit-from (op p q) (op (flip x a p) (flip x b q)) x _ h ih)
      (some a b f g)

  -- the state of the result is the operation of the two states, at every row
  steps-inside : (n : ℕ) (p q : Bool) (a b : List ℕ) (lo r : ℕ) → From lo a → From lo b → length a + length b ≤ n
      → inside (op p q) (boundaries op n p q a b) r ≡ op (inside p a r) (inside q b r)
  steps-inside zero p q [] [] lo r f g h = refl
  steps-inside zero p q [] (y ∷ b) lo r f g h = absurd (omega arith)
  steps-inside zero p q (x ∷ a) b lo r f g h = absurd (omega arith)
  steps-inside (suc n) p q a b lo r f g h =
      let x = least a b in
      let fa = least-left a b lo f in
      let fb = least-right a b lo g in
      let pa = pop-from x a fa in
      let pb = pop-from x b fb in
      emit-inside (op p q) (op (flip x a p) (flip x b q)) x _ r (steps-from n (flip x a p) (flip x b q) (pop x a) (pop x b) (suc x) pa pb)
      ∙ ap (λ (t : Bool). cond (leb x r) t (op p q))
      (steps-inside n (flip x a p) (flip x b q) (pop x a) (pop x b) (suc x) r pa pb (shrink a b n h))
      ∙ cond-op op (leb x r) _ p _ q
      ∙ sym (ap (λ (t : Bool). op t (inside q b r)) (inside-step p x a r fa) ∙ ap (op _) (inside-step q x b r fb))

  pub steps-ends : (n : ℕ) (p q : Bool) (a b : List ℕ) → length a + length b ≤ n → ends (op p q) (boundaries op n p q a b) ≡ op (ends p a) (ends q b)
  steps-ends zero p q [] [] h = refl
  steps-ends zero p q [] (y ∷ b) h = absurd (omega arith)
  steps-ends zero p q (x ∷ a) b h = absurd (omega arith)
  steps-ends (suc n) p q a b h =
      let x = least a b in
      emit-ends (op p q) (op (flip x a p) (flip x b q)) x _
      ∙ steps-ends n (flip x a p) (flip x b q) (pop x a) (pop x b) (shrink a b n h)
      ∙ sym (ap (λ (t : Bool). op t (ends q b)) (flip-ends p x a) ∙ ap (op _) (flip-ends q x b))

  steps-length : (n : ℕ) (p q : Bool) (a b : List ℕ) → length (boundaries op n p q a b) ≤ n
  steps-length zero p q a b = le_refl 0
  steps-length (suc n) p q a b =
      let x = least a b in
      omega (
        arith,
        emit-length (op p q) (op (flip x a p) (flip x b q)) x (boundaries op n (flip x a p) (flip x b q) (pop x a) (pop x b)),
        steps-length n (flip x a p) (flip x b q) (pop x a) (pop x b),
      )

  steps_all : (P : ℕ → Type 0) (n : ℕ) (p q : Bool) (a b : List ℕ) → All P a → All P b → All P (boundaries op n p q a b)
  steps_all P zero p q a b f g = tt
  steps_all P (suc n) p q a b f g =
      let x = least a b in
      let ih = steps_all P n (flip x a p) (flip x b q) (pop x a) (pop x b) (pop-all P x a f) (pop-all P x b g) in
      ⊎_elim
      (λ e. subst⁻¹ (λ (l : List ℕ). All P l) (steps-nil (suc n) p q a b e) tt)
      (λ h. emit-all P (op p q) (op (flip x a p) (flip x b q)) x _ h ih)
      (least-all P a b f g)

-- ---- the combination of two lists

module _ (op : Bool → Bool → Bool) (none : op false false ≡ false) (a b : List ℕ) (v : Valid a) (w : Valid b) where
  -- the result is valid
  pub combine-valid : Valid (combine op a b)
  unfolding combine merge
  combine-valid =
      from-valid (combine op a b) 0 (steps-from op (length a + length b) false false a b 0 (valid-from a 0 v) (valid-from b 0 w))
      (subst (λ (t : Bool). ends t (boundaries op (length a + length b) false false a b) ≡ false) none
      (steps-ends op (length a + length b) false false a b (le_refl _) ∙ rw (valid-ends a 0 v, valid-ends b 0 w) none))

  -- for every row: the operation of what the two lists say
  pub combine-has : (r : ℕ) → has (combine op a b) r ≡ op (has a r) (has b r)
  unfolding combine merge
  combine-has r =
      has-inside (combine op a b) 0 r combine-valid
      ∙ subst (λ (t : Bool). inside t (boundaries op (length a + length b) false false a b) r ≡ op (inside false a r) (inside false b r)) none
      (steps-inside op (length a + length b) false false a b 0 r (valid-from a 0 v) (valid-from b 0 w) (le_refl _))
      ∙ sym (rw (has-inside a 0 r v, has-inside b 0 r w))

-- every word of the result is a word of a or of b: what holds of those holds of it
pub combine-all : (op : Bool → Bool → Bool) (P : ℕ → Type 0) (a b : List ℕ) → All P a → All P b → All P (combine op a b)
unfolding combine merge
combine-all op P a b f g = steps_all op P (length a + length b) false false a b f g

pub combine-length : (op : Bool → Bool → Bool) (a b : List ℕ) → length (combine op a b) ≤ length a + length b
unfolding combine merge
combine-length op a b = steps-length op (length a + length b) false false a b

-- the union with no list
pub combine-left-alone : (ws : List ℕ) → Valid ws → combine either ws [] ≡ ws
combine-left-alone ws v =
    unique (combine either ws []) ws (combine-valid either refl ws [] v tt) v (λ r. combine-has either refl ws [] v tt r ∙ or-false (has ws r))
  where
    or-false : (b : Bool) → either b false ≡ b
    or-false true = refl
    or-false false = refl
