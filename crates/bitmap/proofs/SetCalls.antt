-- The set calls, one law for each way through the code.
use mathlib.Core.Path.{◌≡◌, refl, sym}
use mathlib.Core.Bool.{Bool}
use mathlib.Core.List.{List}
use Prim.Native.Nat.{ℕ, ◌+◌, ◌≤◌}
use native.Mathlib.Omega.{arith}
use lib.ListN.{length}
use Rattle.fields.specs.Refusal.{refusal_number}
use Rattle.fields.specs.declared.outcome.Refusal.{Refusal}
use Rattle.fields.proofs.Refusals.{found_first, found-next, refusal_some}
use Rattle.fields.proofs.Limits.{room_fits, room-none}
use Rattle.fields.proofs.Answers.{gives-refused, gives-accepted}
use Rattle.fields.specs.Limits.{no_room, max_words}
use Rattle.run_list.specs.Runs.{fault2}
use Rattle.boundary.specs.Merge.{combine}
use Rattle.fields.specs.Answers.{Stored}
use Rattle.bitmap.specs.Calls.{Combined}
use Rattle.boundary.proofs.Combining.{combine-length}

-- not measured, and measured
module _ (op : Bool → Bool → Bool) (a b : List ℕ) (room : ℕ) where
  pub room_most : length a + length b ≤ room → length a + length b ≤ max_words → 0 ≡ no_room max_words (length (combine op a b)) room
  room_most h k = let l = combine-length op a b in room_fits max_words (length (combine op a b)) room (omega arith) (omega arith)

-- ---- answers

module _ (op : Bool → Bool → Bool) (a b out : List ℕ) where
  pub combined-refused : (e : Refusal) → refusal_number e ≡ fault2 a b → Combined op a b out (record { refusal = refusal_number e; len = 0 }) out
  combined-refused e is = gives-refused _ _ 0 out (refusal_number e) (found_first _ _ (refusal_number e) is (refusal_some e)) (refusal_some e)

  module _ (z : 0 ≡ fault2 a b) where
    pub combined-full : (e : Refusal) → refusal_number e ≡ no_room max_words (length (combine op a b)) (length out)
        → Combined op a b out (record { refusal = refusal_number e; len = 0 }) out
    combined-full e is = gives-refused _ _ 0 out (refusal_number e) (found-next _ _ 0 (refusal_number e) z refl is) (refusal_some e)

    pub combined-done : 0 ≡ no_room max_words (length (combine op a b)) (length out) → (n : ℕ) (out' : List ℕ) → Stored (combine op a b) out n out'
        → Combined op a b out (record { refusal = 0; len = n }) out'
    combined-done y n out' s =
        gives-accepted _ _ 0 out (sym (found-next _ _ 0 0 z refl y)) (omega arith) (room-none max_words (length (combine op a b)) (length out) (sym y)) n out' s.number s.written
