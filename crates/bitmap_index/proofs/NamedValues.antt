-- The values that steps name: one a step. Where they are in the steps, and whether all are present.
use mathlib.Core.Path.{◌≡◌, refl, sym, ap, ◌∙◌}
use mathlib.Core.Bool.{Bool, true, false, not, ◌||◌}
use mathlib.Core.List.{List, [], ◌∷◌, map}
use Prim.Native.Nat.{ℕ, zero, suc, ◌+◌, ◌*◌, ◌/◌, ◌%◌, ◌≤◌, ◌<◌}
use native.Mathlib.Omega.{arith}
use lib.Dec.{eqb}
use lib.ListN.{length, take, drop, get_or, length-map}
use lib.Seq.{take_at}
use Rattle.std.specs.List.{list_any}
use Rattle.fields.specs.Refusal.{when, ◌then◌}
use Rattle.fields.specs.Answers.{over}
use Rattle.fields.proofs.Answers.{over-sets}
use Rattle.fields.proofs.Storing.{Storing, storing-end, get_d_map}
use Rattle.index.specs.Index.{index_fault, entries, present}
use Rattle.index.specs.Search.{place_of, block_from, found}
use Rattle.index.proofs.PlacedBlocks.{place-present, placed-found}
use Rattle.std.specs.Borrow.{Bor}
use Rattle.bitmap_index.specs.Filter.{named, missing_fault, ands, take_then_ands}
use Rattle.bitmap_index.specs.Inner.{steps_of, value_fault}
use Rattle.bitmap_index.specs.declared.steps.Steps.{Steps}
use Rattle.bitmap_index.specs.declared.steps.Steps.TheVariants.{Pairs}

-- ---- their number and their places

pub named-few : (steps : List ℕ) → 2 * length (named steps) ≤ length steps
unfolding named
named-few [] = omega arith
named-few (kind ∷ []) = omega arith
named-few (kind ∷ v ∷ steps) = omega (arith, named-few steps)

pub length-named : (steps : List ℕ) → length (named steps) ≡ length steps / 2
unfolding named
length-named [] = omega arith
length-named (kind ∷ []) = omega arith
length-named (kind ∷ v ∷ steps) = omega (arith, length-named steps)

-- pairs name as many values as they are
pub named-pairs : (steps : List ℕ) → (length steps % 2 ≡ 1 → ⊥) → 2 * length (named steps) ≡ length steps
named-pairs steps o = omega (arith, o, length-named steps)

pub named-at : (steps : List ℕ) (i : ℕ) → i < length (named steps) → get_or steps (2 * i + 1) 0 ≡ get_or (named steps) i 0
unfolding named
named-at [] i h = absurd (omega arith)
named-at (kind ∷ []) i h = absurd (omega arith)
named-at (kind ∷ v ∷ steps) zero h = refl
named-at (kind ∷ v ∷ steps) (suc i) h =
    let e : 2 * suc i + 1 ≡ suc (suc (2 * i + 1)) = omega arith in
    rw e (named-at steps i (omega arith))

named-ands : (vs : List ℕ) → named (ands vs) ≡ vs
unfolding named ands
named-ands [] = refl
named-ands (v ∷ vs) = ap (λ (l : List ℕ). v ∷ l) (named-ands vs)

-- "take then ands" name the values themselves
pub named-take_then_ands : (vs : List ℕ) → named (take_then_ands vs) ≡ vs
unfolding named take_then_ands
named-take_then_ands [] = refl
named-take_then_ands (v ∷ vs) = ap (λ (l : List ℕ). v ∷ l) (named-ands vs)

-- ---- their places in an index

module _ (s : List ℕ) (st : Steps) (before : List ℕ) (i : ℕ) (places : List ℕ) (n : ℕ) where
  abbrev vs : List ℕ
  vs = named (steps_of st)

  abbrev right : List ℕ
  right = map (place_of s) vs

  module _ (m : Storing right (length vs) before i places) (e : n ≡ length vs) (h : n ≤ i) where
    pub places-all : take n places ≡ map (place_of s) (named (steps_of st))
    unfolding over
    places-all =
        let l : length right ≡ length vs = length-map vs (place_of s) in
        rw (storing-end right (length vs) before i places m (omega (arith, e)), over-sets right before (omega (arith, l, m.room)))
        (take_at right (drop (length right) before) n (l ∙ sym e))

    number : length (take n places) ≡ length vs
    number = ap length places-all ∙ length-map vs (place_of s)

    pub places-few : length vs ≤ 4096 → length (take n places) ≤ 4096
    places-few k = omega (arith, k, number)

    pub places-number : 2 * length vs ≡ length (steps_of st) → 2 * length (take n places) ≡ length (steps_of st)
    places-number k = rw number k

module _ (s : List ℕ) (e : index_fault s ≡ 0) where
  -- the block at the place of step i is the one of the value that it names
  pub step_block : (steps places : List ℕ) → places ≡ map (place_of s) (named steps) → (i : ℕ) → i < length places
      → block_from s (get_or places i 0) ≡ found s (get_or steps (2 * i + 1) 0)
  step_block steps places are i h =
      let k : i < length (named steps) = omega (arith, h, ap length are, length-map (named steps) (place_of s)) in
      rw (are, get_d_map (place_of s) (named steps) i k, placed-found s (get_or (named steps) i 0) e, named-at steps i k) refl

  -- a place is 0 exactly for a value that is missing
  any-missing : (vs : List ℕ) → when (list_any (λ p. eqb p 0) (map (place_of s) vs)) 11 ≡ missing_fault (entries s) vs
  unfolding missing_fault when ◌then◌
  any-missing [] = refl
  any-missing (v ∷ vs) = rw (place-present s v e, ← any-missing vs) (by (present (entries s) v) (list_any (λ p. eqb p 0) (map (place_of s) vs)))
    where
      by : (p q : Bool) → when (not p || q) 11 ≡ (when (not p) 11 then when q 11)
      by true q = refl
      by false q = refl

  -- what the code finds among the places of a filter is its fault
  module _ (st : Steps) (words : Bor (List ℕ)) (d : st ≡ Pairs words) (places : List ℕ) (are : places ≡ map (place_of s) (named (steps_of st)))
      (t : Bool) (is : t ≡ list_any (λ p. eqb p 0) places) where
    missing-is : when t 11 ≡ value_fault (entries s) st
    missing-is = rw (is, are, d) (any-missing (named words.now))

    pub value-missing : t ≡ true → 11 ≡ value_fault (entries s) st
    unfolding when
    value-missing z = rw z at missing-is

    pub value-present : t ≡ false → 0 ≡ value_fault (entries s) st
    unfolding when
    value-present z = rw z at missing-is
