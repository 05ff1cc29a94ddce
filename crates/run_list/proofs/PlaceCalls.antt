-- The call `search`: one law for each way through the code, and what its answer means on a list that is accepted.
use mathlib.Core.Path.{◌≡◌, refl, sym, ap, ◌∙◌}
use mathlib.Core.Bool.{true, false}
use mathlib.Core.Logic.{⊎_elim}
use mathlib.Core.List.{List}
use Prim.Native.Nat.{ℕ, ◌*◌, ◌/◌, ◌^◌, ◌≤◌, ◌<◌}
use native.Mathlib.Nat.{le_refl}
use native.Mathlib.Omega.{arith}
use lib.ListN.{length, get_or}
use Rattle.std.specs.Prelude.{Ok, Err}
use Rattle.fields.specs.Answers.{none}
use Rattle.fields.specs.Refusal.{refusal_number}
use Rattle.fields.specs.declared.outcome.Refusal.{Refusal}
use Rattle.fields.proofs.Refusals.{refusal_some}
use Rattle.fields.proofs.Answers.{says-refused, says-accepted, accepted-none}
use Rattle.fields.proofs.Tests.{split-le}
use Rattle.run_list.specs.Runs.{has, Valid, fault}
use Rattle.run_list.specs.Places.{begun, place}
use Rattle.run_list.specs.Meaning.{InGap, InRun}
use Rattle.run_list.specs.Calls.{Searches, Contains, place_of}
use Rattle.run_list.specs.declared.Listed.{Listed}
use Rattle.run_list.specs.declared.place.Place.{Place}
use Rattle.run_list.specs.declared.place.PlaceAnswer.{PlaceAnswer}
use Rattle.run_list.proofs.Validity.{fault-accepted}
use Rattle.run_list.proofs.RowCalls.{none-unlisted, all_of}
use Rattle.run_list.proofs.PlaceLaws.{begun-all, begun-front, begun-past, missing-gap, listed-run, gap-missing, run-listed}

module _ (ws : List ℕ) (r : ℕ) where
  pub search-refused : (e : Refusal) → refusal_number e ≡ fault ws → Searches ws r (place_of (Err e))
  search-refused e d =
      record { number = says-refused (fault ws) _ 0 (refusal_number e) d (refusal_some e); yes = says-refused (fault ws) _ false (refusal_number e) d (refusal_some e) }

  -- l are the words once they are judged
  pub search-accepted : 0 ≡ fault ws → (l : List ℕ) → l ≡ ws → (p : Place) → p ≡ place l r → Searches ws r (place_of (Ok p))
  search-accepted z l el p d =
      let d' = rw el at d in
      record {
        number = says-accepted (fault ws) _ 0 0 z refl p.begun (ap (λ (q : Place). q.begun) d');
        yes = says-accepted (fault ws) _ false 0 z refl p.listed (ap (λ (q : Place). q.listed) d');
      }

-- ---- what the answer means

-- `contains` gives the same refusal and the same yes or no
pub search-contains : (ws : List ℕ) (row : ℕ) (r : PlaceAnswer) → Searches ws row r → (l : Listed) → Contains ws row l → (l.refusal ≡ r.refusal) × (l.yes ≡ r.listed)
search-contains ws row r c l d = (d.number ∙ sym c.yes.number, d.says ∙ sym c.yes.says)

module _ (ws : List ℕ) (row : ℕ) (r : PlaceAnswer) (c : Searches ws row r) (z : r.refusal ≡ 0) where
  right : fault ws ≡ 0
  right = sym c.number.number ∙ z

  valid : Valid ws
  valid = (fault-accepted ws right).valid

  -- "the number of runs whose start is at or below the row"
  pub search-number : r.begun ≡ begun ws row
  search-number = c.number.says ∙ accepted-none (fault ws) (begun ws row) 0 right

  -- "together with yes or no"
  pub search-yes : r.listed ≡ has ws row
  search-yes = c.yes.says ∙ accepted-none (fault ws) (has ws row) false right

  -- run i starts at or below the row exactly if i is below the number
  pub search-begun : (i : ℕ) → i < r.begun → get_or ws (2 * i) 0 ≤ row
  search-begun i h = begun-front ws row valid i (rw search-number at h)

  pub search-past : (i : ℕ) → r.begun ≤ i → i < length ws / 2 → row < get_or ws (2 * i) 0
  search-past i h = begun-past ws row valid i (rw search-number at h)

  -- no: the row lies between run number - 1 and run number; and a row that lies so gets no and that number
  pub search-gap : r.listed ≡ false → InGap ws row r.begun
  search-gap h = rw search-number (missing-gap ws row valid (sym search-yes ∙ h))

  pub gap-search : (m : ℕ) → m ≤ length ws / 2 → InGap ws row m → (r.listed ≡ false) × (r.begun ≡ m)
  gap-search m l i = let d = gap-missing ws row valid m l i in (search-yes ∙ d.0, search-number ∙ d.1)

  -- yes: run number - 1 has the row; and a row of a run gets yes and that number
  pub search-run : r.listed ≡ true → InRun ws row r.begun
  search-run h = rw search-number (listed-run ws row valid (sym search-yes ∙ h))

  pub run-search : (m : ℕ) → InRun ws row m → (r.listed ≡ true) × (r.begun ≡ m)
  run-search m i = let d = run-listed ws row valid m i in (search-yes ∙ d.0, search-number ∙ d.1)

-- row 2^64 - 1 "is never a row": in a list of 64-bit words it is past all runs
pub search-none : (ws : List ℕ) → ((i : ℕ) → get_or ws i 0 < 2 ^ 64) → (r : PlaceAnswer) → Searches ws none r → r.refusal ≡ 0 → (r.listed ≡ false) × (r.begun ≡ length ws / 2)
search-none ws small r c z = (search-yes ws none r c z ∙ none-unlisted ws (all_of (λ w. w < 2 ^ 64) ws small), ⊎_elim (λ k. omega (arith, k.1, most)) (λ k. absurd (past k.1)) (split-le (length ws / 2) r.begun))
  where
    most : r.begun ≤ length ws / 2
    most = omega (arith, search-number ws none r c z, begun-all ws none (valid ws none r c z))

    past : r.begun < length ws / 2 → ⊥
    past h = omega (arith, search-past ws none r c z r.begun (le_refl r.begun) h, small (2 * r.begun))
