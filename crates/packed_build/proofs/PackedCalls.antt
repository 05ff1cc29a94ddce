-- `from_packed_bits`, one law for each way through the code.
use mathlib.Core.Path.{◌≡◌, refl, sym}
use mathlib.Core.List.{List}
use Prim.Native.Nat.{ℕ, ◌*◌, ◌≤◌}
use native.Mathlib.Omega.{arith}
use lib.ListN.{length}
use Rattle.fields.specs.Refusal.{refusal_number}
use Rattle.fields.specs.declared.outcome.Refusal.{Refusal}
use Rattle.fields.proofs.Refusals.{refusal_some, found_first, found-next}
use Rattle.fields.proofs.Answers.{gives-refused, gives-accepted}
use Rattle.fields.specs.Limits.{too_long, no_room, max_words, max_bits}
use Rattle.fields.specs.Answers.{Stored}
use Rattle.fields.proofs.Limits.{room_fits, room-none}
use Rattle.packed_build.specs.Packed.{list_of, Packed}
use Rattle.packed_build.proofs.PackedLaws.{list_of-length}

-- ---- room: not measured, and measured

module _ (bits : List ℕ) (room : ℕ) where
  pub room_most : length bits * 8 ≤ room → length bits * 8 ≤ max_words → 0 ≡ no_room max_words (length (list_of bits)) room
  room_most h k = let l = list_of-length bits in room_fits max_words (length (list_of bits)) room (omega arith) (omega arith)

-- ---- answers: b are the bits once they are judged

module _ (bits out : List ℕ) where
  pub packed-long : (e : Refusal) → refusal_number e ≡ too_long max_bits bits → Packed bits out (record { refusal = refusal_number e; len = 0 }) out
  packed-long e d = gives-refused _ _ 0 out (refusal_number e) (found_first _ _ _ d (refusal_some e)) (refusal_some e)

  module _ (z : 0 ≡ too_long max_bits bits) (b : List ℕ) (eb : b ≡ bits) where
    pub packed-full : (e : Refusal) → refusal_number e ≡ no_room max_words (length (list_of b)) (length out) → Packed bits out (record { refusal = refusal_number e; len = 0 }) out
    packed-full e d = gives-refused _ _ 0 out (refusal_number e) (found-next _ _ 0 (refusal_number e) z refl (rw eb at d)) (refusal_some e)

    pub packed-done : 0 ≡ no_room max_words (length (list_of b)) (length out) → (n : ℕ) (out' : List ℕ) → Stored (list_of b) out n out' → Packed bits out (record { refusal = 0; len = n }) out'
    packed-done d n out' w =
        let d' = rw eb at d in
        let s = rw eb at w in
        gives-accepted _ _ 0 out (sym (found-next _ _ 0 0 z refl d')) (omega arith) (room-none max_words (length (list_of bits)) (length out) (sym d')) n out' s.number s.written
