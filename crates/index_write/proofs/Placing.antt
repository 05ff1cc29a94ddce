-- What `insert` writes: the entry of the value, and around it the entries of lesser and of greater values. One law for each way through the code.
use mathlib.Core.Path.{◌≡◌, sym, ap, ◌∙◌}
use mathlib.Core.List.{List, ◌∷◌, ◌++◌}
use Prim.Native.Nat.{ℕ, ◌+◌, ◌-◌, ◌*◌, ◌≤◌, ◌<◌}
use native.Mathlib.Omega.{arith}
use borrow.Rule.Slice.PartMut.{put_mid, mid_of}
use lib.ListN.{length, length-append}
use lib.Seq.{sets, length-sets}
use Rattle.fields.specs.Answers.{StoredAt}
use Rattle.fields.specs.Bytes.{to_le, stored}
use Rattle.fields.proofs.Numbers.{sets-append, length-stored}
use Rattle.fields.specs.Limits.{max_words}
use Rattle.boundary.specs.Merge.{combine, either, op_of}
use Rattle.run_list.specs.Blocks.{block_bytes}
use Rattle.bitmap.specs.Calls.{StoredBlock}
use Rattle.boundary.proofs.Values.{op-either}
use Rattle.bitmap.proofs.BlockMerge.{stored-whole}
use Rattle.run_list.proofs.RoundTrip.{length-block_bytes}
use Rattle.index.specs.Index.{entry, entry_list, entry_bytes, index_bytes}
use Rattle.index_write.specs.Inner.{bytes_from, joined, inserted_at, InsertsAt, Fitting}
use Rattle.index_write.specs.declared.InsertionPoint.{InsertionPoint}
use Rattle.index.proofs.Sizes.{length-entry_bytes, index-size, length-entry_list}
use Rattle.index_write.proofs.Writing.{sets-all, part_length, entry-stored, headed}
use Rattle.index.proofs.IndexTrip.{entries-few}
use Rattle.index_write.proofs.Inserting.{inserted-bytes, inserted-length}

-- ---- the entry of the value: its block is a union

pub entry-merged : (o o1 o2 : List ℕ) (to v w : ℕ) → to + 16 + 8 * w ≤ length o → o1 ≡ stored o to (to_le 8 v) → o2 ≡ stored o1 (to + 8) (to_le 4 (4 + 8 * w))
    → (a b : List ℕ) → w ≡ length (combine either a b) → (n : ℕ) (p : List ℕ)
    → StoredBlock (combine (op_of 14) a b) (mid_of (to + 12) (to + 12 + (4 + 8 * w) - (to + 12)) o2) n p
    → StoredAt (entry_bytes (entry v (combine either a b))) o to (to + 12 + (4 + 8 * w)) (put_mid (to + 12) (to + 12 + (4 + 8 * w) - (to + 12)) o2 p)
unfolding entry_bytes
entry-merged o o1 o2 to v w h g1 g2 a b e n p d =
    let ws = combine either a b in
    let m = mid_of (to + 12) (to + 12 + (4 + 8 * w) - (to + 12)) o2 in
    let d' : StoredBlock ws m n p = rw op-either at d in
    let g : to + 12 + (4 + 8 * w) ≤ length o = omega arith in
    let l = part_length o o1 o2 to v (4 + 8 * w) g g1 g2 in
    let k : 4 + 8 * w ≡ length (block_bytes ws) = omega (arith, length-block_bytes ws) in
    let q : p ≡ block_bytes ws = stored-whole ws m n p d' (omega (arith, l)) ∙ sets-all m (block_bytes ws) (omega (arith, l)) in
    record {
      next = omega (arith, length-entry_bytes (entry v ws));
      written = entry-stored o o1 o2 to v (4 + 8 * w) g g1 g2 p (ap length q ∙ sym k) ∙ rw (← k, q);
    }

-- ---- the index

module _ (s : List ℕ) (v : ℕ) (ws : List ℕ) (r : InsertionPoint) (t : InsertsAt s v r) (o : List ℕ) (f : Fitting (inserted_at s v ws r) o) where
  size : length (inserted_at s v ws r) ≡ r.below + 1 + r.rest
  size =
      let a = entry_list r.below s 4 in
      let b = entry_list r.rest s r.next in
      omega (arith, length-append a (entry v (joined ws s r.from r.next) ∷ b), length-entry_list r.below s 4, length-entry_list r.rest s r.next)

  pub count_fits : r.below + 1 + r.rest < 4294967296
  count_fits = omega (arith, size, entries-few (inserted_at s v ws r), index-size (inserted_at s v ws r), f.limit)

  module _ (o1 : List ℕ) (d1 : o1 ≡ stored o 0 (to_le 4 (r.below + 1 + r.rest))) where
    same1 : length o1 ≡ length o
    same1 = rw d1 (length-stored o 0 (to_le 4 (r.below + 1 + r.rest)))

    pub front-room : 4 + length (bytes_from s 4 r.below) ≤ length o1
    front-room = omega (arith, same1, inserted-length s v ws r, f.room)

    module _ (to : ℕ) (o2 : List ℕ) (d2 : StoredAt (bytes_from s 4 r.below) o1 4 to o2) (w : ℕ) (ew : w ≡ length (joined ws s r.from r.next)) where
      same2 : length o2 ≡ length o
      same2 = rw d2.written (length-sets o1 4 (bytes_from s 4 r.below)) ∙ same1

      pub words-limit : w ≤ max_words
      words-limit = omega (arith, inserted-length s v ws r, f.limit)

      pub entry-room : to + 16 + 8 * w ≤ length o2
      entry-room = omega (arith, same2, d2.next, inserted-length s v ws r, f.room)

      module _ (to' : ℕ) (o3 : List ℕ) (d3 : StoredAt (entry_bytes (entry v (joined ws s r.from r.next))) o2 to to' o3) where
        same3 : length o3 ≡ length o
        same3 = rw d3.written (length-sets o2 to (entry_bytes (entry v (joined ws s r.from r.next)))) ∙ same2

        pub after-room : to' + length (bytes_from s r.next r.rest) ≤ length o3
        after-room = omega (arith, same3, d2.next, d3.next, length-entry_bytes (entry v (joined ws s r.from r.next)), inserted-length s v ws r, f.room)

        pub inserted-written : (to'' : ℕ) (o4 : List ℕ) → StoredAt (bytes_from s r.next r.rest) o3 to' to'' o4 → o4 ≡ sets o 0 (index_bytes (inserted_at s v ws r))
        inserted-written to'' o4 d4 =
            let a = bytes_from s 4 r.below in
            let b = entry_bytes (entry v (joined ws s r.from r.next)) in
            let c = bytes_from s r.next r.rest in
            let all : o4 ≡ sets o1 4 (a ++ (b ++ c)) =
            d4.written ∙ rw (d3.next, d3.written, ← sets-append o2 to b c, d2.next, d2.written, ← sets-append o1 4 a (b ++ c)) in
            headed o o1 (r.below + 1 + r.rest) d1 (inserted_at s v ws r) (sym size) f.room o4 (all ∙ rw (inserted-bytes s v ws r))
