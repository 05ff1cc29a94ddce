-- The call: judging both indexes, the room, and the answer. One law for each way through the code.
use mathlib.Core.Path.{◌≡◌, sym, ◌∙◌}
use mathlib.Core.Bool.{Bool, true}
use mathlib.Core.List.{List}
use Prim.Native.Nat.{ℕ, ◌+◌, ◌-◌, ◌≤◌, ◌<◌}
use native.Mathlib.Omega.{arith}
use lib.Dec.{ltb}
use lib.ListN.{length}
use Rattle.std.specs.Prelude.{Result}
use Rattle.std.specs.Result.{is_ok}
use Rattle.fields.specs.Refusal.{◌then◌, refusal_number, refusal_of}
use Rattle.fields.specs.declared.outcome.Refusal.{Refusal}
use Rattle.fields.specs.declared.outcome.Refusal.TheVariants.{TooLong}
use Rattle.fields.specs.Limits.{too_long, no_room, max_bytes}
use Rattle.fields.proofs.Answers.{gives-refused, gives-accepted}
use Rattle.fields.proofs.Limits.{long-found, long-none, room_fits, room-none, room_within}
use Rattle.fields.proofs.Refusals.{then-none, then-assoc, front-none, rest-none, found_first, refusal_some, ok-number}
use Rattle.index.specs.Index.{bytes_fault, index_fault, entries, index_bytes}
use Rattle.index.proofs.Sizes.{index-size, long-first}
use Rattle.index_merge.specs.Calls.{merged, merge_fault, merged_bytes, Merged}
use Rattle.index_merge.specs.Inner.{WrittenIndex}
use Rattle.index_merge.proofs.Walking.{both-within}

-- ---- the room

module _ (s t : List ℕ) (l m : ℕ) (el : l ≡ length (index_bytes (entries s))) (em : m ≡ length (index_bytes (entries t))) where
  pub lengths-count : 4 ≤ l + m
  lengths-count = omega (arith, index-size (entries s))

  -- the entries of both fit side by side
  pub space-sure : index_fault s ≡ 0 → index_fault t ≡ 0 → (room : ℕ) (k : Result (Unit {0}) Refusal) → refusal_of k ≡ no_room max_bytes (l + m - 4) room
      → (b : Bool) → b ≡ is_ok k → b ≡ true → 0 ≡ no_room max_bytes (length (merged_bytes s t)) room
  space-sure e f room k d b is z =
      let y : no_room max_bytes (l + m - 4) room ≡ 0 = sym d ∙ ok-number k (sym is ∙ z) in
      room_fits
      max_bytes
      (length (merged_bytes s t))
      room
      (omega (arith, both-within s t e f, room-none max_bytes (l + m - 4) room y))
      (omega (arith, both-within s t e f, room_within max_bytes (l + m - 4) room y))

-- ---- faults

module _ (s t : List ℕ) where
  pub fault-first : merge_fault s t ≡ 0 → index_fault s ≡ 0
  unfolding merge_fault index_fault
  fault-first e = then-none _ _ (front-none _ _ e) ∙ front-none _ _ (rest-none _ _ (rest-none _ _ e))

  pub fault-second : merge_fault s t ≡ 0 → index_fault t ≡ 0
  unfolding merge_fault index_fault
  fault-second e = let r = rest-none _ _ e in then-none _ _ (front-none _ _ r) ∙ rest-none _ _ (rest-none _ _ r)

  -- 1 for both is one number, so that the second's length can be judged first
  second-long : max_bytes < length t → 1 ≡ merge_fault s t
  unfolding merge_fault too_long
  second-long h = found_first _ _ 1 (long-found max_bytes t h) (λ z. omega arith) ∙ long-first (ltb max_bytes (length s)) (ltb max_bytes (length t)) (bytes_fault s then bytes_fault t)

  -- then the faults of the first, then those of the second
  in-turn : length t ≤ max_bytes → merge_fault s t ≡ (index_fault s then index_fault t)
  unfolding merge_fault index_fault
  in-turn h =
      let z : too_long max_bytes t ≡ 0 = sym (long-none max_bytes t h) in
      let f : (too_long max_bytes t then bytes_fault s then bytes_fault t) ≡ (bytes_fault s then bytes_fault t) = then-none _ _ z in
      let g : (too_long max_bytes t then bytes_fault t) ≡ bytes_fault t = then-none _ _ z in
      rw (f, g) (sym (then-assoc (too_long max_bytes s) (bytes_fault s) (bytes_fault t)))

-- ---- the answer

module _ (s t out : List ℕ) where
  merge-refused : (e : Refusal) → refusal_number e ≡ merge_fault s t → Merged s t out (record { refusal = refusal_number e; len = 0 }) out
  merge-refused e k = gives-refused _ _ 0 out (refusal_number e) (found_first _ _ (refusal_number e) k (refusal_some e)) (refusal_some e)

  pub merge-long : max_bytes < length t → Merged s t out (record { refusal = 1; len = 0 }) out
  merge-long h = merge-refused TooLong (second-long s t h)

  module _ (h : length t ≤ max_bytes) where
    pub merge-first : (e : Refusal) → refusal_number e ≡ index_fault s → Merged s t out (record { refusal = refusal_number e; len = 0 }) out
    merge-first e k = merge-refused e (found_first _ _ (refusal_number e) k (refusal_some e) ∙ sym (in-turn s t h))

    module _ (y : 0 ≡ index_fault s) where
      later : merge_fault s t ≡ index_fault t
      later = in-turn s t h ∙ then-none _ _ (sym y)

      pub merge-second : (e : Refusal) → refusal_number e ≡ index_fault t → Merged s t out (record { refusal = refusal_number e; len = 0 }) out
      merge-second e k = merge-refused e (k ∙ sym later)

      -- a and b are the bytes that the judged values have
      module _ (z : 0 ≡ index_fault t) (a b : List ℕ) (ea : a ≡ s) (eb : b ≡ t) where
        from-room : (merge_fault s t then no_room max_bytes (length (merged_bytes s t)) (length out)) ≡ no_room max_bytes (length (merged_bytes a b)) (length out)
        from-room = rw (ea, eb) (then-none _ _ (later ∙ sym z))

        pub merge-full : (e : Refusal) → refusal_number e ≡ no_room max_bytes (length (merged_bytes a b)) (length out)
            → Merged s t out (record { refusal = refusal_number e; len = 0 }) out
        merge-full e k = gives-refused _ _ 0 out (refusal_number e) (k ∙ sym from-room) (refusal_some e)

        pub merge-done : 0 ≡ no_room max_bytes (length (merged_bytes a b)) (length out) → (n : ℕ) (out' : List ℕ)
            → WrittenIndex (merged (entries a) (entries b)) out n out' → Merged s t out (record { refusal = 0; len = n }) out'
        merge-done x n out' w' =
            let f : no_room max_bytes (length (merged_bytes s t)) (length out) ≡ 0 = rw (ea, eb) at (sym x) in
            let w : WrittenIndex (merged (entries s) (entries t)) out n out' = rw (ea, eb) at w' in
            let room = room-none max_bytes (length (merged_bytes s t)) (length out) f in
            gives-accepted _ (merged_bytes s t) 0 out (from-room ∙ sym x) (omega arith) room n out' w.number
            (w.written (record { room = room; limit = room_within max_bytes (length (merged_bytes s t)) (length out) f }))
