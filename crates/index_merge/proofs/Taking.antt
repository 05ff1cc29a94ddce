-- The entries that are left of an index, and the first of them: one law for each way through the code.
use mathlib.Core.Path.{◌≡◌, refl, sym, ◌∙◌}
use mathlib.Core.Bool.{Bool, true, false, not, true≢false}
use mathlib.Core.List.{List, [], ◌∷◌}
use Prim.Native.Nat.{ℕ, zero, suc, ◌+◌, ◌-◌, ◌≤◌}
use native.Mathlib.Omega.{arith}
use borrow.Author.Tests.{eq-eqb, ne_eqb, eqb-true, le-ltb}
use lib.Dec.{eqb, ltb}
use lib.ListN.{length, take, drop}
use Rattle.std.specs.Prelude.{Option, None, Some}
use Rattle.std.specs.Option.{option_eq}
use Rattle.fields.specs.Bytes.{from_le, number_at}
use Rattle.fields.specs.Limits.{max_bytes}
use Rattle.fields.proofs.Refusals.{then-none}
use Rattle.run_list.specs.Blocks.{block_runs, block_words, words_at}
use Rattle.index.specs.Index.{Entry, entries, entries_fault, entry_at, entry_list, head_fault, index_fault, length_at, next_at, value_at}
use Rattle.index.proofs.Entries.{Opened, block-part, head-right, length-block, open-first, open-index}
use Rattle.index.proofs.Sizes.{entries-within, length-entries, length-entry_list}
use Rattle.index_merge.specs.Inner.{Taken, head_of}
use Rattle.index_merge.proofs.Merging.{each-sixteen}

-- ---- all of an index

module _ (s : List ℕ) (e : index_fault s ≡ 0) where
  pub all-short : length s ≤ max_bytes
  all-short = (open-index s e).short

  pub all-place : 4 ≤ length s
  all-place = (open-index s e).counted

  module _ (n : ℕ) (en : n ≡ length (entries s)) where
    pub all-right : entries_fault n s 4 0 ≡ 0
    all-right = rw (en, length-entries s) (open-index s e).right

    pub all-listed : entry_list n s 4 ≡ entries s
    unfolding entries
    all-listed = rw (en, length-entries s)

-- ---- how many are left

-- an entry has at least 16 bytes
pub left-few : (n : ℕ) (s : List ℕ) (at : ℕ) → at ≤ length s → entries_fault n s at 0 ≡ 0 → length s ≤ max_bytes → n ≤ max_bytes
left-few n s at h e k = omega (arith, entries-within n s at 0 h e, each-sixteen (entry_list n s at), length-entry_list n s at)

-- ---- the value of the first one

module _ (s : List ℕ) (at : ℕ) where
  pub head-none : (n : ℕ) → n ≡ 0 → None ≡ head_of (entry_list n s at)
  unfolding entry_list
  head-none n e = rw e

  pub head-some : (n : ℕ) → (n ≡ 0 → ⊥) → (v : ℕ) → v ≡ value_at s at → Some v ≡ head_of (entry_list n s at)
  unfolding entry_list
  head-some zero z v e = absurd (z refl)
  head-some (suc n) z v e = rw e

  pub head-there : (n : ℕ) → entries_fault n s at 0 ≡ 0 → (n ≡ 0 → ⊥) → at + 12 ≤ length s
  head-there zero e z = absurd (z refl)
  head-there (suc n) e z = omega (arith, (open-first n s at 0 e).fit.fits)

-- ---- taken or not

-- it is v, by a test
test-is : (f : Option ℕ) (v : ℕ) → not (option_eq eqb f (Some v)) ≡ false → f ≡ Some v
test-is None v e = absurd (true≢false e)
test-is (Some x) v e = case (eqb x v) refl e
  where
    case : (t : Bool) → eqb x v ≡ t → not t ≡ false → Some x ≡ Some v
    case true d z = rw (eqb-true x v d)
    case false d z = absurd (true≢false z)

test-other : (v : ℕ) → not (option_eq eqb (Some v) (Some v)) ≡ true → ⊥
test-other v e = true≢false (sym (rw (eq-eqb v v refl) at e))

-- no value is too low after none
any-low : (n : ℕ) (s : List ℕ) (at lo : ℕ) → entries_fault n s at lo ≡ 0 → entries_fault n s at 0 ≡ 0
unfolding entries_fault
any-low zero s at lo e = refl
any-low (suc n) s at lo e =
    let o = open-first n s at lo e in
    let f = o.fit.fits in
    let h : 0 ≡ head_fault s at 0 =
    head-right s at 0 (omega arith) (omega arith) (value_at s at) refl (ltb (value_at s at) 0) refl (le-ltb (value_at s at) 0 (omega arith)) (omega arith) (length_at s at) refl (omega arith) in
    then-none _ _ (sym h) ∙ then-none _ _ o.fit.right ∙ o.rest

listed-first : (n : ℕ) (s : List ℕ) (at : ℕ) → 1 ≤ n → entry_list n s at ≡ entry_at s at ∷ entry_list (n - 1) s (next_at s at)
unfolding entry_list
listed-first zero s at h = absurd (omega arith)
listed-first (suc n) s at h = let i : suc n - 1 ≡ n = omega arith in rw i

no_words : block_words [] ≡ []
unfolding block_words block_runs words_at number_at from_le
no_words = refl

module _ (s : List ℕ) (at n v : ℕ) (f : Option ℕ) (ef : f ≡ head_of (entry_list n s at)) (r : Bool) (er : r ≡ not (option_eq eqb f (Some v))) where
  pub taken-none : length s ≤ max_bytes → r ≡ true → Taken v (entry_list n s at) [] (entry_list n s at)
  taken-none k z = go (entry_list n s at) (λ d. test-other v (sym (rw (ef ∙ d) at er) ∙ z))
    where
      go : (es : List Entry) → (head_of es ≡ Some v → ⊥) → Taken v es [] es
      go [] d = record { words = no_words; rest = refl; short = omega arith }
      go (e ∷ es) d = let k = ne_eqb e.value v (λ q. d (rw q)) in record { words = rw k no_words; rest = rw k; short = omega arith }

  module _ (z : r ≡ false) where
    head-is : head_of (entry_list n s at) ≡ Some v
    head-is = sym ef ∙ test-is f v (sym er ∙ z)

    pub some-left : 1 ≤ n
    unfolding entry_list
    some-left = go n head-is
      where
        no : None ≡ Some v → ⊥
        no e = cc

        go : (n : ℕ) → head_of (entry_list n s at) ≡ Some v → 1 ≤ n
        go zero e = absurd (no e)
        go (suc n) e = omega arith

    module _ (e : entries_fault n s at 0 ≡ 0) where
      opened : Opened (n - 1) s at 0
      opened = let i : n ≡ suc (n - 1) = omega (arith, some-left) in open-first (n - 1) s at 0 (rw i at e)

      pub length-there : at + 12 ≤ length s
      length-there = omega (arith, opened.fit.fits)

      module _ (l : ℕ) (el : l ≡ length_at s at) where
        to : at + 12 + l ≡ next_at s at
        to = omega arith

        pub next-place : at + 12 + l ≤ length s
        next-place = omega (arith, opened.fit.fits)

        pub next-right : entries_fault (n - 1) s (at + 12 + l) 0 ≡ 0
        next-right = rw to (any-low (n - 1) s (next_at s at) (suc (value_at s at)) opened.rest)

        one : entry_list n s at ≡ entry_at s at ∷ entry_list (n - 1) s (next_at s at)
        one = listed-first n s at some-left

        pub taken-first : length s ≤ max_bytes → Taken v (entry_list n s at) (take (at + 12 + l - (at + 12)) (drop (at + 12) s)) (entry_list (n - 1) s (at + 12 + l))
        taken-first k =
            let t = eq-eqb (value_at s at) v (same (sym (rw one) ∙ head-is)) in
            record {
              words = rw (block-part s at l el, one, t);
              rest = rw (to, one, t);
              short = rw (block-part s at l el) (omega (arith, length-block s at opened.fit.fits, opened.fit.fits));
            }
          where
            same : Some (value_at s at) ≡ Some v → value_at s at ≡ v
            same e = cc
