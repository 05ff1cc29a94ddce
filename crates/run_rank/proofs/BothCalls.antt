-- The call with two outputs, ranks and flags: one law for each way through the code.
use mathlib.Core.Path.{◌≡◌, refl, sym, ap, ◌∙◌}
use mathlib.Core.List.{List, map}
use Prim.Native.Nat.{ℕ, ◌+◌, ◌≤◌, ◌<◌}
use native.Mathlib.Omega.{arith}
use borrow.Author.Tests.{lt-ltb, le-ltb}
use lib.ListN.{length, get_or, set}
use lib.Seq.{sets}
use Rattle.fields.specs.Refusal.{◌then◌, refusal_number}
use Rattle.fields.specs.declared.outcome.Refusal.{Refusal}
use Rattle.fields.specs.Counting.{bit}
use Rattle.fields.specs.Answers.{short, short2}
use Rattle.fields.proofs.Refusals.{refusal_some, when_true, when_false, found_first, found-next}
use Rattle.fields.proofs.Answers.{gives-refused, gives-accepted}
use Rattle.fields.proofs.Storing.{Storing, storing-start, storing-end, map-length, map_next}
use Rattle.run_list.specs.Runs.{has, fault}
use Rattle.run_list.specs.Rows.{rows_below}
use Rattle.run_list.specs.Places.{place, place_after}
use Rattle.run_list.specs.Search.{searched}
use Rattle.run_list.specs.declared.place.Place.{Place}
use Rattle.run_rank.specs.RunRanks.{directory_fault, RanksAndContains}
use Rattle.run_rank.specs.Inner.{RanksAndFlags}
use Rattle.run_list.proofs.RowCalls.{accepted-place}
use Rattle.run_list.proofs.Lookups.{Answering, answering-start, answering-next, answering-end}

-- ---- two words for each position; the flags hold the places of those that are still to come

pub record Both (ws ps out₀ flags₀ : List ℕ) (i : ℕ) (out flags : List ℕ) : Type 0 where
  pub ranks : Storing (map (rows_below ws) ps) (length ps) out₀ i out
  pub flagged : Answering (λ p. searched p ws) (λ p. bit (has ws p)) ps flags₀ i flags

module _ (ws ps out₀ flags₀ : List ℕ) where
  pub both-start : length ps ≤ length out₀ → length ps ≤ length flags₀ → (flags : List ℕ) → flags ≡ sets flags₀ 0 (map (λ p. searched p ws) ps)
      → Both ws ps out₀ flags₀ 0 out₀ flags
  both-start h k flags e =
      record {
        ranks = storing-start (map (rows_below ws) ps) (length ps) out₀ (map-length (rows_below ws) ps) (omega (arith, map-length (rows_below ws) ps));
        flagged = answering-start (λ p. searched p ws) (λ p. bit (has ws p)) ps flags₀ k flags e;
      }

  module _ (i : ℕ) (out flags : List ℕ) (m : Both ws ps out₀ flags₀ i out flags) (h : i < length ps) where
    module _ (a : fault ws ≡ 0) (found : Place) (e : found ≡ place_after (get_or flags i 0)) where
      pub both-place : found ≡ place ws (get_or ps i 0)
      both-place = e ∙ accepted-place ws a (get_or ps i 0) (get_or flags i 0) (m.flagged.places i (omega arith) h)

      pub both-next : (w : ℕ) → w ≡ rows_below ws (get_or ps i 0) → (f : ℕ) → f ≡ bit found.listed → Both ws ps out₀ flags₀ (i + 1) (set out i w) (set flags i f)
      both-next w d f k =
          record {
            ranks = map_next (rows_below ws) ps out₀ i out m.ranks h w d;
            flagged = answering-next (λ p. searched p ws) (λ p. bit (has ws p)) ps flags₀ i flags m.flagged h f (k ∙ ap (λ (q : Place). bit q.listed) both-place);
          }

  pub both-end : (i : ℕ) (out flags : List ℕ) → Both ws ps out₀ flags₀ i out flags → length ps ≤ i → RanksAndFlags ws ps out₀ flags₀ out flags
  both-end i out flags m h =
      record {
        ranks = storing-end (map (rows_below ws) ps) (length ps) out₀ i out m.ranks h;
        flags = answering-end (λ p. searched p ws) (λ p. bit (has ws p)) ps flags₀ i flags m.flagged h;
      }

-- ---- the answer with two outputs

module _ (ws directory ps out out₂ : List ℕ) where
  abbrev F : ℕ
  F = directory_fault ws directory then short2 (length ps) (length out) (length out₂)

  refused : (g : ℕ) → g ≡ F → (g ≡ 0 → ⊥) → RanksAndContains ws directory ps out out₂ (record { refusal = g; len = 0 }) out out₂
  refused g d z = record { first = gives-refused F _ 0 out g d z; second = (gives-refused F (map (λ p. bit (has ws p)) ps) 0 out₂ g d z).output }

  pub both-refused : (e : Refusal) → refusal_number e ≡ directory_fault ws directory → RanksAndContains ws directory ps out out₂ (record { refusal = refusal_number e; len = 0 }) out out₂
  both-refused e d = refused (refusal_number e) (found_first _ _ _ d (refusal_some e)) (refusal_some e)

  module _ (z : 0 ≡ directory_fault ws directory) where
    pub first-full : length out < length ps → RanksAndContains ws directory ps out out₂ (record { refusal = 10; len = 0 }) out out₂
    unfolding short2 short
    first-full h = refused 10 (found-next _ _ 0 10 z refl (found_first _ _ 10 (sym (when_true _ 10 (lt-ltb (length out) (length ps) h))) (λ k. absurd (omega arith)))) (λ k. absurd (omega arith))

    module _ (h : length ps ≤ length out) where
      pub both-full : length out₂ < length ps → RanksAndContains ws directory ps out out₂ (record { refusal = 10; len = 0 }) out out₂
      unfolding short2 short
      both-full k =
          refused 10 (found-next _ _ 0 10 z refl (found-next _ _ 0 10 (sym (when_false _ 10 (le-ltb (length out) (length ps) h))) refl (sym (when_true _ 10 (lt-ltb (length out₂) (length ps) k)))))
          (λ y. absurd (omega arith))

      pub both-done : length ps ≤ length out₂ → (l : List ℕ) → l ≡ ws → (out' out₂' : List ℕ) → RanksAndFlags l ps out out₂ out' out₂'
          → RanksAndContains ws directory ps out out₂ (record { refusal = 0; len = length ps }) out' out₂'
      unfolding short2 short
      both-done k l el out' out₂' w =
          let w' = rw el at w in
          let none_found : F ≡ 0 = sym (found-next _ _ 0 0 z refl (found-next _ _ 0 0 (sym (when_false _ 10 (le-ltb (length out) (length ps) h))) refl (sym (when_false _ 10 (le-ltb (length out₂) (length ps) k))))) in
          record {
            first = gives-accepted F _ 0 out none_found (omega arith) (omega (arith, map-length (rows_below ws) ps)) (length ps) out' (map-length (rows_below ws) ps) w'.ranks;
            second = (gives-accepted F (map (λ p. bit (has ws p)) ps) 0 out₂ none_found (omega arith) (omega (arith, map-length (λ p. bit (has ws p)) ps)) (length ps) out₂' (map-length (λ p. bit (has ws p)) ps) w'.flags).output;
          }
