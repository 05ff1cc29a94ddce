-- Two filters leave the same runs on all entries exactly when they say the same to every set of values. In one direction by the rows; in the other by
-- entries made for the set: the values that the filters name, each with row 0 where it is in the set, and with no row else.
use mathlib.Core.Path.{◌≡◌, refl, sym, ap, ◌∙◌}
use mathlib.Core.Bool.{Bool, true, false, cond, ◌&&◌, ◌||◌, and-false, and-true}
use mathlib.Core.Logic.{⊎_elim}
use mathlib.Core.List.{List, [], ◌∷◌, ◌++◌}
use Prim.Native.Nat.{ℕ, ◌^◌, ◌<◌}
use native.Mathlib.Omega.{arith}
use borrow.Author.Tests.{eq-eqb, ne_eqb}
use Rattle.fields.proofs.Tests.{split-eq}
use Rattle.run_list.specs.Rising.{All, elem}
use Rattle.run_list.specs.Runs.{has, Valid}
use Rattle.run_list.proofs.Boundaries.{unique}
use Rattle.index.specs.Index.{Entry, words_of}
use Rattle.index_write.specs.Calls.{inserted}
use Rattle.bitmap_index.specs.Filter.{keep, says, named}
use Rattle.index.proofs.IndexTrip.{Sounds}
use Rattle.demands.proofs.InsertedRows.{inserted-rows, inserted-sound}
use Rattle.bitmap_index.proofs.FilterLaws.{keep-within, keep-has, all-weaken, says_same, elem-all, elem-left, elem-right}

-- ---- filters that say the same leave the same

pub says-keep : (A B : List ℕ) → ((set : ℕ → Bool) → says A set ≡ says B set) → (es : List Entry) → Sounds 0 es → keep es A ≡ keep es B
says-keep A B a es s =
    unique (keep es A) (keep es B) (keep-within es s A).valid (keep-within es s B).valid
    (λ r. keep-has es s A r ∙ a (λ v. has (words_of es v) r) ∙ sym (keep-has es s B r))

-- ---- the entries made for a set

abbrev pub row0 : Bool → List ℕ
row0 b = cond b (0 ∷ 1 ∷ []) []

pub row0-valid : (b : Bool) → Valid (row0 b)
row0-valid true = (omega arith, omega arith, tt)
row0-valid false = tt

row0-has : (b : Bool) → has (row0 b) 0 ≡ b
row0-has true = refl
row0-has false = refl

pub row0-small : (b : Bool) → All (λ w. w < 2 ^ 64) (row0 b)
row0-small true = (omega arith, (omega arith, tt))
row0-small false = tt

unfoldable pub witness : (ℕ → Bool) → List ℕ → List Entry
witness S [] = []
witness S (v ∷ vs) = inserted v (row0 (S v)) (witness S vs)

module _ (S : ℕ → Bool) where
  pub witness-sound : (vs : List ℕ) → All (λ v. v < 2 ^ 64) vs → Sounds 0 (witness S vs)
  unfolding witness
  witness-sound [] f = tt
  witness-sound (v ∷ vs) f =
      inserted-sound v (row0 (S v)) f.0 (row0-valid (S v)) (row0-small (S v)) (witness S vs) 0 (omega arith) (witness-sound vs f.1)

  -- the values among them that list row 0 are those in the set
  witness-rows : (vs : List ℕ) → All (λ v. v < 2 ^ 64) vs → (u : ℕ) → has (words_of (witness S vs) u) 0 ≡ (S u && elem u vs)
  unfolding witness words_of
  witness-rows [] f u = sym (and-false (S u))
  witness-rows (v ∷ vs) f u =
      inserted-rows v (row0 (S v)) (row0-valid (S v)) u 0 (witness S vs) 0 (witness-sound vs f.1)
      ∙ rw (row0-has (S v), witness-rows vs f.1 u) (⊎_elim (λ k. rw (k.0, ← k.1, eq-eqb u u refl) (absorb (S u) (elem u vs))) (λ k. rw (k.0, ne_eqb v u (λ e. k.1 (sym e)))) (split-eq u v))
    where
      absorb : (s t : Bool) → (s || (s && t)) ≡ (s && true)
      absorb true t = refl
      absorb false t = refl

  module _ (vs : List ℕ) (f : All (λ v. v < 2 ^ 64) vs) where
    -- so a filter that names only some of them leaves row 0 exactly when it says yes to the set
    witness-says : (C : List ℕ) → All (λ u. elem u vs ≡ true) (named C) → has (keep (witness S vs) C) 0 ≡ says C S
    witness-says C a =
        keep-has (witness S vs) (witness-sound vs f) C 0
        ∙ says_same (λ v. has (words_of (witness S vs) v) 0) S C
        (all-weaken (λ u. elem u vs ≡ true) (λ u. has (words_of (witness S vs) u) 0 ≡ S u) (λ u p. witness-rows vs f u ∙ rw p (and-true (S u))) (named C) a)

-- filters that leave the same on the entries made for a set say the same to it
pub keep-says : (S : ℕ → Bool) (A B : List ℕ) → let vs = named A ++ named B in
    All (λ v. v < 2 ^ 64) vs → keep (witness S vs) A ≡ keep (witness S vs) B → says A S ≡ says B S
keep-says S A B f e =
    let vs = named A ++ named B in
    sym (witness-says S vs f A (all-weaken (λ u. elem u (named A) ≡ true) (λ u. elem u vs ≡ true) (elem-left (named A) (named B)) (named A) (elem-all (named A))))
    ∙ ap (λ (ks : List ℕ). has ks 0) e
    ∙ witness-says S vs f B (all-weaken (λ u. elem u (named B) ≡ true) (λ u. elem u vs ≡ true) (elem-right (named A) (named B)) (named B) (elem-all (named B)))
