-- The two calls, one law for each way through the code: l are the words once they are judged, p the row that they are searched for.
use mathlib.Core.Path.{◌≡◌, refl, sym, ◌∙◌}
use mathlib.Core.List.{List}
use Prim.Native.Nat.{ℕ, ◌≤◌, ◌<◌}
use native.Mathlib.Omega.{arith}
use borrow.Author.Tests.{le-leb, lt-leb}
use Rattle.std.specs.Prelude.{Option, None, Result, Ok, Err}
use Rattle.fields.specs.Refusal.{when, refusal_number}
use Rattle.fields.specs.Answers.{option_of, word_number_of}
use Rattle.fields.specs.declared.outcome.Refusal.{Refusal}
use Rattle.fields.specs.declared.outcome.Refusal.TheVariants.{EmptyRun}
use Rattle.fields.proofs.Refusals.{refusal_some, then-none, then_some}
use Rattle.fields.proofs.Answers.{says-refused, says-accepted, says-word}
use Rattle.run_list.specs.Runs.{fault}
use Rattle.neighbours.specs.declared.Nearest.{Nearest}
use Rattle.neighbours.specs.Neighbours.{row_above, row_below, first_shared, nearest_of, NearestOptions, NearestRows, overlap_fault, OverlapOption, FirstOverlap}

module _ (ws : List ℕ) where
  pub nearest-refused : (e : Refusal) → refusal_number e ≡ fault ws → (r : ℕ) → NearestOptions ws r (Err e)
  nearest-refused e d r =
      record { above = says-refused (fault ws) _ None (refusal_number e) d (refusal_some e); below = says-refused (fault ws) _ None (refusal_number e) d (refusal_some e) }

  pub overlap-refused : (e : Refusal) → refusal_number e ≡ fault ws → (a b : ℕ) → OverlapOption ws a b (Err e)
  unfolding overlap_fault
  overlap-refused e d a b =
      let z = refusal_some e in
      says-refused _ _ None (refusal_number e) (d ∙ sym (then_some (fault ws) _ (λ k. z (d ∙ k)))) z

  module _ (z : 0 ≡ fault ws) where
    pub overlap-empty : (a b : ℕ) → b ≤ a → OverlapOption ws a b (Err EmptyRun)
    unfolding overlap_fault when
    overlap-empty a b h =
        let y : 3 ≡ overlap_fault ws a b = sym (then-none (fault ws) _ (sym z) ∙ rw (le-leb b a h)) in
        says-refused _ _ None 3 y (λ k. absurd (omega arith))

    module _ (l : List ℕ) (el : l ≡ ws) (p r : ℕ) (ep : p ≡ r) where
      pub nearest-given : (a b : Option ℕ) → a ≡ option_of (row_above l p) → b ≡ option_of (row_below l p) → NearestOptions ws r (Ok (record { above = a; below = b }))
      nearest-given a b d e =
          record { above = says-accepted _ _ None 0 z refl a (rw (el, ep) at d); below = says-accepted _ _ None 0 z refl b (rw (el, ep) at e) }

      pub overlap-given : (b : ℕ) → r < b → (o : Option ℕ) → o ≡ option_of (first_shared l p b) → OverlapOption ws r b (Ok o)
      unfolding overlap_fault when
      overlap-given b h o d =
          let y : 0 ≡ overlap_fault ws r b = sym (then-none (fault ws) _ (sym z) ∙ rw (lt-leb b r h)) in
          says-accepted _ _ None 0 y refl o (rw (el, ep) at d)

-- ---- with words, as they cross to C

pub nearest-words : (ws : List ℕ) (row : ℕ) (r : Result Nearest Refusal) → NearestOptions ws row r → NearestRows ws row (nearest_of r)
nearest-words ws row (Ok n) c = record { above = says-word _ _ (Ok n.above) c.above; below = says-word _ _ (Ok n.below) c.below }
nearest-words ws row (Err e) c = record { above = says-word _ _ (Err e) c.above; below = says-word _ _ (Err e) c.below }

pub overlap-word : (ws : List ℕ) (a b : ℕ) (r : Result (Option ℕ) Refusal) → OverlapOption ws a b r → FirstOverlap ws a b (word_number_of r)
overlap-word ws a b r c = says-word _ _ r c
