-- What the two calls answer on a list that is accepted: laws about whatever meets their contracts.
use mathlib.Core.Path.{◌≡◌, sym, ◌∙◌}
use mathlib.Core.Bool.{true≢false}
use mathlib.Core.Logic.{◌⊎◌, inl, inr, ⊎_elim}
use mathlib.Core.List.{List}
use Prim.Native.Nat.{ℕ, ◌^◌, ◌<◌}
use native.Mathlib.Omega.{arith}
use Rattle.fields.specs.Answers.{none}
use Rattle.fields.specs.declared.outcome.Number.{Number}
use Rattle.fields.proofs.Refusals.{front-none}
use Rattle.fields.proofs.Answers.{accepted-none}
use Rattle.run_list.specs.Runs.{Valid, fault}
use Rattle.run_list.specs.Rising.{All}
use Rattle.run_list.proofs.Validity.{fault-accepted, valid-even}
use Rattle.neighbours.specs.Neighbours.{row_above, row_below, first_shared, NearestRows, FirstOverlap, overlap_fault}
use Rattle.neighbours.specs.Meaning.{NearestAbove, NearestBelow, NoneAbove, NoneBelow, FirstShared, NoneShared}
use Rattle.neighbours.specs.declared.NearestAnswer.{NearestAnswer}
use Rattle.neighbours.proofs.NearestLaws.{above-either, below-either, shared-either}

-- a number that is none where N holds, and else a number below none with I, which rules N out
module _ (a : ℕ) (N I : Type 0) (clash : I → N → ⊥) (d : ((a ≡ none) × N) ⊎ ((a < none) × I)) where
  some-is : (a ≡ none → ⊥) → I
  some-is z = ⊎_elim (λ k. absurd (z k.0)) (λ k. k.1) d

  none-is : a ≡ none → N
  none-is e = ⊎_elim (λ k. k.1) (λ k. absurd (omega (arith, e, k.0))) d

  is-none : N → a ≡ none
  is-none n = ⊎_elim (λ k. k.0) (λ k. absurd (clash k.1 n)) d

-- ---- `neighbours`

module _ (ws : List ℕ) (row : ℕ) (h : All (λ w. w < 2 ^ 64) ws) (r : NearestAnswer) (c : NearestRows ws row r) (z : r.refusal ≡ 0) where
  right : fault ws ≡ 0
  right = sym c.above.number ∙ z

  valid : Valid ws
  valid = (fault-accepted ws right).valid

  above-clash : (a : ℕ) → NearestAbove ws row a → NoneAbove ws row → ⊥
  above-clash a i n = true≢false (sym i.listed ∙ n a i.side)

  below-clash : (b : ℕ) → NearestBelow ws row b → NoneBelow ws row → ⊥
  below-clash b i n = true≢false (sym i.listed ∙ n b i.side)

  above-cases : ((r.above ≡ none) × NoneAbove ws row) ⊎ ((r.above < none) × NearestAbove ws row r.above)
  above-cases =
      let e : r.above ≡ row_above ws row = c.above.says ∙ accepted-none (fault ws) (row_above ws row) 0 right in
      rw e (above-either ws 0 row valid h)

  below-cases : ((r.below ≡ none) × NoneBelow ws row) ⊎ ((r.below < none) × NearestBelow ws row r.below)
  below-cases =
      let e : r.below ≡ row_below ws row = c.below.says ∙ accepted-none (fault ws) (row_below ws row) 0 right in
      rw e (below-either none ws 0 row valid h)

  -- "the nearest listed row at or above it"
  pub above-nearest : (r.above ≡ none → ⊥) → NearestAbove ws row r.above
  above-nearest = some-is r.above (NoneAbove ws row) (NearestAbove ws row r.above) (above-clash r.above) above-cases

  -- "None is 2^64 - 1": exactly where no row at or above it is listed
  pub above-none : r.above ≡ none → NoneAbove ws row
  above-none = none-is r.above (NoneAbove ws row) (NearestAbove ws row r.above) (above-clash r.above) above-cases

  pub none-above : NoneAbove ws row → r.above ≡ none
  none-above = is-none r.above (NoneAbove ws row) (NearestAbove ws row r.above) (above-clash r.above) above-cases

  -- "and the nearest at or below it"
  pub below-nearest : (r.below ≡ none → ⊥) → NearestBelow ws row r.below
  below-nearest = some-is r.below (NoneBelow ws row) (NearestBelow ws row r.below) (below-clash r.below) below-cases

  pub below-none : r.below ≡ none → NoneBelow ws row
  below-none = none-is r.below (NoneBelow ws row) (NearestBelow ws row r.below) (below-clash r.below) below-cases

  pub none-below : NoneBelow ws row → r.below ≡ none
  none-below = is-none r.below (NoneBelow ws row) (NearestBelow ws row r.below) (below-clash r.below) below-cases

-- ---- `first_overlap`

module _ (ws : List ℕ) (a b : ℕ) (r : Number) (c : FirstOverlap ws a b r) (z : r.refusal ≡ 0) where
  judged : overlap_fault ws a b ≡ 0
  judged = sym c.number ∙ z

  list-right : fault ws ≡ 0
  unfolding overlap_fault
  list-right = front-none (fault ws) _ judged

  shared-clash : FirstShared ws r.number a b → NoneShared ws a b → ⊥
  shared-clash i n = true≢false (sym i.has_row ∙ n r.number i.within i.row i.from i.below)

  shared-cases : ((r.number ≡ none) × NoneShared ws a b) ⊎ ((r.number < none) × FirstShared ws r.number a b)
  shared-cases =
      let e : r.number ≡ first_shared ws a b = c.says ∙ accepted-none (overlap_fault ws a b) (first_shared ws a b) 0 judged in
      ⊎_elim (λ d. inl (e ∙ d.0, d.1))
      (λ d. let n : r.number ≡ d.0 = e ∙ d.1 ∙ omega arith in
      inr (omega (arith, n, d.2.within, (fault-accepted ws list-right).limit), rw n d.2))
      (shared-either 0 ws a b (valid-even ws 0 (fault-accepted ws list-right).valid))

  -- "the first run that shares a row with a given range, by its number in the list, counted from 0"
  pub overlap-first : (r.number ≡ none → ⊥) → FirstShared ws r.number a b
  overlap-first = some-is r.number (NoneShared ws a b) (FirstShared ws r.number a b) shared-clash shared-cases

  -- none exactly where no run does
  pub overlap-none : r.number ≡ none → NoneShared ws a b
  overlap-none = none-is r.number (NoneShared ws a b) (FirstShared ws r.number a b) shared-clash shared-cases

  pub none-overlap : NoneShared ws a b → r.number ≡ none
  none-overlap = is-none r.number (NoneShared ws a b) (FirstShared ws r.number a b) shared-clash shared-cases
