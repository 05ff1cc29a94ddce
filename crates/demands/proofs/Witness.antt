-- The entries made for a set, written, are an accepted index.
use mathlib.Core.Path.{◌≡◌, refl, ◌∙◌}
use mathlib.Core.Bool.{Bool, true, false}
use mathlib.Core.List.{List, [], ◌∷◌, ◌++◌, append-nil}
use Prim.Native.Nat.{ℕ, ◌*◌, ◌^◌, ◌≤◌, ◌<◌}
use native.Mathlib.Omega.{arith}
use lib.ListN.{length}
use Rattle.run_list.specs.Rising.{All, elem}
use Rattle.index.specs.Index.{index_fault, entries, entries_bytes, index_bytes, present}
use Rattle.index.proofs.Sizes.{index-size}
use Rattle.index.proofs.IndexTrip.{written-bytes, written-reads}
use Rattle.demands.proofs.InsertedRows.{inserted-size}
use Rattle.bitmap_index.specs.Filter.{named}
use Rattle.bitmap_index.proofs.FilterLaws.{all-weaken, elem-all, elem-left, elem-right}
use Rattle.demands.specs.Demand3.{Mix, Accepted, Lists}
use Rattle.demands.proofs.InsertedValues.{inserted-present}
use Rattle.demands.proofs.Agreement.{row0, witness, witness-sound}

-- ---- the values that a filter names: each below 2^64

pub named_small : (steps : List ℕ) → Mix steps → All (λ v. v < 2 ^ 64) (named steps)
unfolding named
named_small [] m = tt
named_small (kind ∷ []) m = tt
named_small (kind ∷ v ∷ steps) m = (m.2, named_small steps m.3)

-- ---- the bytes: at most 32 a value

row0-few : (b : Bool) → length (row0 b) ≤ 2
row0-few true = omega arith
row0-few false = omega arith

module _ (S : ℕ → Bool) where
  witness-size : (vs : List ℕ) → length (entries_bytes (witness S vs)) ≤ 32 * length vs
  unfolding witness entries_bytes
  witness-size [] = omega arith
  witness-size (v ∷ vs) = omega (arith, inserted-size v (row0 (S v)) (witness S vs), row0-few (S v), witness-size vs)

  -- 8,192 values: two filters of 4,096 steps each name no more
  module _ (vs : List ℕ) (f : All (λ v. v < 2 ^ 64) vs) (h : length vs ≤ 8192) where
    reads : (index_fault (index_bytes (witness S vs)) ≡ 0) × (entries (index_bytes (witness S vs)) ≡ witness S vs)
    reads =
        let z = append-nil (index_bytes (witness S vs)) in
        rw z at (written-reads (witness S vs) [] (witness-sound S vs f) (rw z (omega (arith, index-size (witness S vs), witness-size vs))))

    pub witness-accepted : Accepted (index_bytes (witness S vs))
    witness-accepted = record { bytes = written-bytes (witness S vs); read = reads.0 }

    pub witness-entries : entries (index_bytes (witness S vs)) ≡ witness S vs
    witness-entries = reads.1

  -- ---- the values: all that the filters name, those without rows too

  witness-present : (vs : List ℕ) (u : ℕ) → present (witness S vs) u ≡ elem u vs
  unfolding witness present
  witness-present [] u = refl
  witness-present (v ∷ vs) u = inserted-present v (row0 (S v)) (witness S vs) u ∙ rw (witness-present vs u) refl

  module _ (A B : List ℕ) (f : All (λ v. v < 2 ^ 64) (named A ++ named B)) (h : length (named A ++ named B) ≤ 8192) where
    -- an index made for the values of both lists those of either
    lists : (C : List ℕ) → All (λ u. elem u (named A ++ named B) ≡ true) (named C) → Lists (index_bytes (witness S (named A ++ named B))) C
    lists C a =
        rw (witness-entries (named A ++ named B) f h)
        (all-weaken (λ u. elem u (named A ++ named B) ≡ true) (λ u. present (witness S (named A ++ named B)) u ≡ true)
        (λ u p. witness-present (named A ++ named B) u ∙ p) (named C) a)

    pub witness-lists-left : Lists (index_bytes (witness S (named A ++ named B))) A
    witness-lists-left =
        lists A (all-weaken (λ u. elem u (named A) ≡ true) (λ u. elem u (named A ++ named B) ≡ true) (elem-left (named A) (named B)) (named A) (elem-all (named A)))

    pub witness-lists-right : Lists (index_bytes (witness S (named A ++ named B))) B
    witness-lists-right =
        lists B (all-weaken (λ u. elem u (named B) ≡ true) (λ u. elem u (named A ++ named B) ≡ true) (elem-right (named A) (named B)) (named B) (elem-all (named B)))
