-- The set operations in the terms of ISO 80000-2: what `union`, `intersect` and `difference` write lists the union, the intersection and the set
-- difference of the two sets of rows, as the one valid run list of that set.
use mathlib.Core.Path.{◌≡◌, refl, sym, ◌∙◌, subst⁻¹}
use mathlib.Core.Bool.{Bool, true, false, not, ◌&&◌, ◌||◌, true≢false}
use mathlib.Core.Logic.{◌↔◌, ◌⊎◌, inl, inr, ⊎_elim}
use mathlib.Core.List.{List, [], ◌∷◌}
use Prim.Native.Nat.{ℕ, ◌≤◌, ◌<◌}
use borrow.Author.Tests.{le-leb, lt-ltb, leb-true, ltb-true}
use lib.Dec.{leb, ltb}
use lib.ListN.{length, take}
use Rattle.fields.specs.declared.outcome.Answer.{Answer}
use Rattle.fields.proofs.Refusals.{front-none, then-none}
use Rattle.fields.proofs.Answers.{gives-result}
use Rattle.fields.specs.Limits.{max_words}
use Rattle.fields.proofs.Limits.{room_fits}
use Rattle.run_list.specs.Runs.{has, Valid}
use Rattle.boundary.specs.Merge.{combine, either, both, left_only}
use Rattle.bitmap.specs.Calls.{Combined}
use Rattle.run_list.proofs.Boundaries.{unique}
use Rattle.boundary.proofs.Combining.{combine-valid, combine-has}
use Rattle.run_list.proofs.Validity.{Accepted, faults-accepted, accepted-faults}

-- ---- the definitions

-- a set of rows: what it means to be in it
abbrev pub RowSet : Type 1
RowSet = ℕ → Type 0

infix 8 ◌∈◌
abbrev pub ◌∈◌ : ℕ → RowSet → Type 0
x ∈ A = A x

-- x ∈ A ∪ B exactly when x ∈ A or x ∈ B
infixl 10 ◌∪◌
abbrev pub ◌∪◌ : RowSet → RowSet → RowSet
(A ∪ B) x = (x ∈ A) ⊎ (x ∈ B)

-- x ∈ A ∩ B exactly when x ∈ A and x ∈ B
infixl 10 ◌∩◌
abbrev pub ◌∩◌ : RowSet → RowSet → RowSet
(A ∩ B) x = (x ∈ A) × (x ∈ B)

-- x ∈ A ∖ B exactly when x ∈ A and not x ∈ B
infixl 10 ◌∖◌
abbrev pub ◌∖◌ : RowSet → RowSet → RowSet
(A ∖ B) x = (x ∈ A) × (x ∈ B → ⊥)

-- the rows of a run list: those x with start <= x < end for one of its runs
abbrev pub rows_of : List ℕ → RowSet
rows_of [] x = ⊥
rows_of (s ∷ []) x = ⊥
rows_of (s ∷ e ∷ ws) x = ((s ≤ x) × (x < e)) ⊎ rows_of ws x

-- ws is the run list of the set A: it is valid, its rows are the members of A, and no other valid list has these rows
pub record ListOf (A : RowSet) (ws : List ℕ) : Type 0 where
  pub valid : Valid ws
  pub rows : (x : ℕ) → (x ∈ rows_of ws) ↔ (x ∈ A)
  pub only : (vs : List ℕ) → Valid vs → ((x : ℕ) → (x ∈ rows_of vs) ↔ (x ∈ A)) → vs ≡ ws

-- ---- the executable reading of a list is that set

or-true : (t : Bool) → (t || true) ≡ true
or-true true = refl
or-true false = refl

has_in : (ws : List ℕ) (x : ℕ) → has ws x ≡ true → x ∈ rows_of ws
has_in [] x h = true≢false (sym h)
has_in (s ∷ []) x h = true≢false (sym h)
has_in (s ∷ e ∷ ws) x h = go (leb s x) refl (ltb x e) refl (λ k. has_in ws x k) h
  where
    go : (t : Bool) → leb s x ≡ t → (u : Bool) → ltb x e ≡ u → (has ws x ≡ true → rows_of ws x) → ((t && u) || has ws x) ≡ true → ((s ≤ x) × (x < e)) ⊎ rows_of ws x
    go true a true b ih h = inl (leb-true s x a, ltb-true x e b)
    go true a false b ih h = inr (ih h)
    go false a u b ih h = inr (ih h)

in-has : (ws : List ℕ) (x : ℕ) → x ∈ rows_of ws → has ws x ≡ true
in-has [] x h = absurd h
in-has (s ∷ []) x h = absurd h
in-has (s ∷ e ∷ ws) x (inl h) = rw (le-leb s x h.0, lt-ltb x e h.1)
in-has (s ∷ e ∷ ws) x (inr h) = rw (in-has ws x h) (or-true (leb s x && ltb x e))

same-has : (a b : Bool) → (a ≡ true → b ≡ true) → (b ≡ true → a ≡ true) → a ≡ b
same-has true b f g = sym (f refl)
same-has false true f g = g refl
same-has false false f g = refl

-- ---- the three operations as one

-- a test op of two memberships stands for an operation S of sets
record Stands (op : Bool → Bool → Bool) (S : RowSet → RowSet → RowSet) : Type 1 where
  none : op false false ≡ false
  to : (A B : RowSet) (x : ℕ) (p q : Bool) → ((p ≡ true) ↔ (x ∈ A)) → ((q ≡ true) ↔ (x ∈ B)) → op p q ≡ true → x ∈ S A B
  from : (A B : RowSet) (x : ℕ) (p q : Bool) → ((p ≡ true) ↔ (x ∈ A)) → ((q ≡ true) ↔ (x ∈ B)) → x ∈ S A B → op p q ≡ true

module _ (op : Bool → Bool → Bool) (S : RowSet → RowSet → RowSet) (s : Stands op S) (left right : List ℕ) (a : Accepted left) (b : Accepted right) where
  reads : (ws : List ℕ) (x : ℕ) → (has ws x ≡ true) ↔ (x ∈ rows_of ws)
  reads ws x = (has_in ws x, in-has ws x)

  combined-set : ListOf (S (rows_of left) (rows_of right)) (combine op left right)
  combined-set = record { valid = valid; rows = rows; only = only }
    where
      valid : Valid (combine op left right)
      valid = combine-valid op s.none left right a.valid b.valid

      rows : (x : ℕ) → (x ∈ rows_of (combine op left right)) ↔ (x ∈ S (rows_of left) (rows_of right))
      rows x =
          let e = combine-has op s.none left right a.valid b.valid x in (
            λ h. s.to (rows_of left) (rows_of right) x (has left x) (has right x) (reads left x) (reads right x) (sym e ∙ in-has (combine op left right) x h),
            λ h. has_in (combine op left right) x (e ∙ s.from (rows_of left) (rows_of right) x (has left x) (has right x) (reads left x) (reads right x) h),
          )

      only : (vs : List ℕ) → Valid vs → ((x : ℕ) → (x ∈ rows_of vs) ↔ (x ∈ S (rows_of left) (rows_of right))) → vs ≡ combine op left right
      only vs v h =
          unique vs (combine op left right) v valid
          (λ x. same-has (has vs x) (has (combine op left right) x)
          (λ k. in-has (combine op left right) x ((rows x).1 ((h x).0 (has_in vs x k))))
          (λ k. in-has vs x ((h x).1 ((rows x).0 (has_in (combine op left right) x k)))))

-- what an accepted call has written, up to its returned length, is the list of the set
written-set : (op : Bool → Bool → Bool) (S : RowSet → RowSet → RowSet) → Stands op S → (left right before out : List ℕ) (r : Answer)
    → Combined op left right before r out → r.refusal ≡ 0 → ListOf (S (rows_of left) (rows_of right)) (take r.len out)
written-set op S s left right before out r c z =
    let f = front-none _ _ (sym c.refusal ∙ z) in
    let ab = faults-accepted left right f in
    subst⁻¹ (λ (ws : List ℕ). ListOf (S (rows_of left) (rows_of right)) ws) (gives-result _ _ _ before r out c z) (combined-set op S s left right ab.0 ab.1)

stands-either : Stands either ◌∪◌
stands-either =
    record {
      none = refl;
      to = λ A B x p q f g h. to p q f.0 g.0 h;
      from = λ A B x p q f g h. ⊎_elim (λ k. rw (f.1 k)) (λ k. rw (g.1 k) (or-true p)) h;
    }
  where
    to : {P Q : Type 0} (p q : Bool) → (p ≡ true → P) → (q ≡ true → Q) → (p || q) ≡ true → P ⊎ Q
    to true q f g h = inl (f refl)
    to false q f g h = inr (g h)

stands-both : Stands both ◌∩◌
stands-both =
    record {
      none = refl;
      to = λ A B x p q f g h. to p q f.0 g.0 h;
      from = λ A B x p q f g h. rw (f.1 h.0, g.1 h.1);
    }
  where
    to : {P Q : Type 0} (p q : Bool) → (p ≡ true → P) → (q ≡ true → Q) → (p && q) ≡ true → P × Q
    to true q f g h = (f refl, g h)
    to false q f g h = absurd (true≢false (sym h))

stands-left_only : Stands left_only ◌∖◌
stands-left_only =
    record {
      none = refl;
      to = λ A B x p q f g h. to p q f.0 g.1 h;
      from = λ A B x p q f g h. from p q (f.1 h.0) (λ e. h.1 (g.0 e));
    }
  where
    to : {P Q : Type 0} (p q : Bool) → (p ≡ true → P) → (Q → q ≡ true) → (p && not q) ≡ true → P × (Q → ⊥)
    to true true f g h = absurd (true≢false (sym h))
    to true false f g h = (f refl, λ k. true≢false (sym (g k)))
    to false q f g h = absurd (true≢false (sym h))

    from : (p q : Bool) → p ≡ true → (q ≡ true → ⊥) → (p && not q) ≡ true
    from true true e n = absurd (n refl)
    from true false e n = refl
    from false q e n = absurd (true≢false (sym e))

-- ---- the laws

module _ (left right before out : List ℕ) (r : Answer) where
  pub union-law : Combined either left right before r out → r.refusal ≡ 0 → ListOf (rows_of left ∪ rows_of right) (take r.len out)
  union-law = written-set either ◌∪◌ stands-either left right before out r

  pub intersect-law : Combined both left right before r out → r.refusal ≡ 0 → ListOf (rows_of left ∩ rows_of right) (take r.len out)
  intersect-law = written-set both ◌∩◌ stands-both left right before out r

  pub difference-law : Combined left_only left right before r out → r.refusal ≡ 0 → ListOf (rows_of left ∖ rows_of right) (take r.len out)
  difference-law = written-set left_only ◌∖◌ stands-left_only left right before out r

  -- and every call is accepted whose lists are, if its result is within the limit and the output has room for it
  pub accepted-law : (op : Bool → Bool → Bool) → Accepted left → Accepted right → length (combine op left right) ≤ length before → length (combine op left right) ≤ max_words
      → Combined op left right before r out → r.refusal ≡ 0
  accepted-law op a b h k c =
      c.refusal ∙ then-none _ _ (accepted-faults left right a b) ∙ sym (room_fits max_words (length (combine op left right)) (length before) h k)
