-- The place of a value's block: it is 0 exactly for the values that are missing, and the block at it is the one that the search finds.
use mathlib.Core.Path.{◌≡◌, refl, sym, ap, ◌∙◌}
use mathlib.Core.Bool.{Bool, true, false, not, cond}
use mathlib.Core.Logic.{⊎_elim}
use mathlib.Core.List.{List, []}
use Prim.Native.Nat.{ℕ, zero, suc, ◌+◌, ◌-◌, ◌*◌, min}
use native.Mathlib.Nat.{add-sub_cancel_left}
use native.Mathlib.Omega.{arith}
use mir.Syntax.{w32}
use mir.Val.{Fits}
use borrow.Author.Tests.{ne_eqb}
use lib.Dec.{eqb}
use lib.ListN.{length, take, drop, length-drop, drop_of_length-le}
use Rattle.std.proofs.lemmas.List.{take_min}
use Rattle.fields.specs.Bytes.{number_at}
use Rattle.fields.proofs.Tests.{split-le}
use Rattle.index.specs.Index.{index_fault, entries, present, length_at}
use Rattle.index.specs.Search.{point_of, is_known, PlaceOf, place_of, size_of, block_from, found}
use Rattle.index.specs.declared.Place.{Place}
use Rattle.index.proofs.Entries.{open-index}
use Rattle.index.proofs.Search.{known-there, known-open}
use Rattle.index.proofs.PresentValues.{known-present}

-- ---- the block at a place

module _ (s : List ℕ) (p start : ℕ) (is : start ≡ min (length s) p) where
  pub block-none : index_fault s ≡ 0 → start ≡ 0 → [] ≡ block_from s p
  unfolding block_from
  block-none e z = let q : p ≡ 0 = omega (arith, is, z, (open-index s e).counted) in rw q refl

  -- from past the end on there is nothing
  cut : drop start s ≡ drop p s
  cut =
      ⊎_elim
      (λ h. let q : start ≡ p = omega (arith, is, h.1) in rw q refl)
      (λ h. drop_of_length-le s {i = start} (omega (arith, is, h.1)) ∙ sym (drop_of_length-le s {i = p} (omega (arith, h.1))))
      (split-le p (length s))

  same-number : number_at 4 s start ≡ number_at 4 s p
  unfolding number_at
  same-number = rw cut refl

  pub block-there : (start ≡ 0 → ⊥) → (c : ℕ) → c ≡ number_at 4 s start → (n : ℕ) → n ≡ min (4 + 16 * c) (length s - start)
      → take (start + n - start) (drop start s) ≡ block_from s p
  unfolding block_from
  block-there some c ec n en =
      rw (add-sub_cancel_left start n, en, ← length-drop start s, take_min (4 + 16 * c) (drop start s), ec, same-number, cut)
      (some-place p (λ z. some (omega (arith, is, z))))
    where
      some-place : (q : ℕ) → (q ≡ 0 → ⊥) → take (4 + 16 * number_at 4 s q) (drop q s) ≡ block_from s q
      some-place zero n = absurd (n refl)
      some-place (suc q) n = refl

-- ---- the place of a value's block

module _ (s : List ℕ) (v : ℕ) (r : Place) (p : PlaceOf s v r) where
  pub place-none : r.known ≡ false → 0 ≡ place_of s v
  unfolding place_of
  place-none z = let f = sym p.known ∙ z in rw f refl

  module _ (z : r.known ≡ true) where
    known-here : is_known s v ≡ true
    known-here = sym p.known ∙ z

    pub place-small : index_fault s ≡ 0 → Fits w32 (r.at + 12)
    place-small e = omega (arith, p.place, (known-there s v known-here).1, (open-index s e).short)

    pub place-some : r.at + 12 ≡ place_of s v
    unfolding place_of
    place-some = rw known-here (ap (λ (n : ℕ). n + 12) p.place)

-- ---- of an index that is not refused

module _ (s : List ℕ) (v : ℕ) (e : index_fault s ≡ 0) where
  -- 0 exactly for the values that are missing
  pub place-present : eqb (place_of s v) 0 ≡ not (present (entries s) v)
  unfolding place_of
  place-present = rw (known-present s v e) (by (present (entries s) v))
    where
      by : (t : Bool) → eqb (cond t (point_of s v + 12) 0) 0 ≡ not t
      by true = ne_eqb (point_of s v + 12) 0 (λ z. omega (arith, z))
      by false = refl

  -- the block at it is what `find` gives
  pub placed-found : block_from s (place_of s v) ≡ found s v
  unfolding found place_of size_of block_from
  placed-found = go (is_known s v) refl
    where
      go : (t : Bool) → is_known s v ≡ t → block_from s (place_of s v) ≡ found s v
      go true z =
          let q = point_of s v in
          let f = (known-open s v e z).fit in
          let n : min (4 + 16 * number_at 4 s (q + 12)) (length_at s q) ≡ 4 + 16 * number_at 4 s (q + 12) = omega (arith, f.count, f.runs) in
          let d : q + 12 ≡ suc (q + 11) = omega arith in
          rw (z, n) (rw d refl)
      go false z = rw z refl
