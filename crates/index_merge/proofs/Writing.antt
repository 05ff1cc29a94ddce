-- An entry whose block is a union: the block in a part that is lent, then the head in front of it. One law for each way through the code.
use mathlib.Core.Path.{◌≡◌, refl, sym, ◌∙◌, ap}
use mathlib.Core.List.{List, [], ◌∷◌, ◌++◌, append_assoc}
use Prim.Native.Nat.{ℕ, ◌+◌, ◌-◌, ◌*◌, ◌/◌, ◌≤◌, min}
use native.Mathlib.Omega.{arith}
use borrow.Rule.Slice.PartMut.{put_mid, mid_of, same_len_mid}
use lib.ListN.{length, drop, length-append, length-drop}
use lib.Seq.{sets, length-sets, take_all}
use Rattle.fields.specs.Bytes.{to_le, stored}
use Rattle.fields.proofs.Numbers.{length-to_le, sets-append, stored-fits, length-stored}
use Rattle.fields.proofs.Copying.{part-stored}
use Rattle.fields.specs.Limits.{no_room, max_bytes}
use Rattle.fields.proofs.Limits.{room_fits, room-none, room_within}
use Rattle.boundary.specs.Merge.{combine, either}
use Rattle.boundary.specs.Stores.{store_words}
use Rattle.boundary.proofs.Combining.{combine-length}
use Rattle.run_list.specs.Blocks.{block_bytes, block_words}
use Rattle.run_list.proofs.RoundTrip.{length-block_bytes, block_words-limit}
use Rattle.bitmap.specs.Calls.{StoredBlock}
use Rattle.bitmap.proofs.BlockMerge.{sets-swap, stored-whole}
use Rattle.index.specs.Index.{entry, entry_bytes}
use Rattle.index.proofs.Sizes.{length-entry_bytes}
use Rattle.index_merge.specs.Inner.{HeadStored, WrittenAt}

-- ---- a block in the part from a place to the end

part-is : (a : ℕ) (o : List ℕ) → mid_of a (length o - a) o ≡ drop a o
part-is a o = take_all (length o - a) (drop a o) (omega (arith, length-drop a o))

length-words : (ws out : List ℕ) (at : ℕ) → length (store_words out at ws) ≡ length out
unfolding store_words
length-words [] out at = refl
length-words (w ∷ ws) out at = length-words ws (stored out at (to_le 8 w)) (at + 8) ∙ length-stored out at (to_le 8 w)

-- ---- numbers

module _ (a b : List ℕ) (ha : length a ≤ max_bytes) (hb : length b ≤ max_bytes) (before : List ℕ) (n : ℕ) (p : List ℕ) where
  pub union-few : StoredBlock (combine either (block_words a) (block_words b)) before n p → n ≤ 2147483640
  union-few d = omega (arith, d.number, combine-length either (block_words a) (block_words b), block_words-limit a ha, block_words-limit b hb)

-- ---- the head

pub head-limit : (to w next : ℕ) → next ≡ to + 16 + 8 * w → (room g : ℕ) → g ≡ no_room max_bytes next room → g ≡ 0 → to + 16 + 8 * w ≤ max_bytes
head-limit to w next d room g e z = omega (arith, room_within max_bytes next room (sym e ∙ z))

-- ---- the entry

module _ (o : List ℕ) (to v from : ℕ) (ef : from ≡ min (to + 12) (length o)) (ws : List ℕ) (n : ℕ) (p : List ℕ)
    (d : StoredBlock ws (mid_of from (length o - from) o) n p) where
  same-part : length p ≡ length (mid_of from (length o - from) o)
  same-part =
      let m = mid_of from (length o - from) o in
      ap length d.written ∙ length-stored (store_words m 4 ws) 0 (to_le 4 (length ws / 2)) ∙ length-words ws m 4

  abbrev o1 : List ℕ
  o1 = put_mid from (length o - from) o p

  same : length o1 ≡ length o
  same = same_len_mid from (length o - from) o p same-part

  module _ (next : ℕ) (en : next ≡ to + 16 + 8 * n) (g : ℕ) (eg : g ≡ no_room max_bytes next (length o)) where
    size : next ≡ to + length (entry_bytes (entry v ws))
    size = omega (arith, d.number, length-entry_bytes (entry v ws))

    pub entry-none : (g ≡ 0 → ⊥) → WrittenAt (entry_bytes (entry v ws)) o to next o1
    entry-none z =
        record {
          next = size;
          written = λ h. absurd (z (eg ∙ sym (room_fits max_bytes next (length o) (rw size h.room) (rw size h.limit))));
          same = same;
        }

    pub entry_done : g ≡ 0 → (o2 : List ℕ) → HeadStored v n o1 to o2 → WrittenAt (entry_bytes (entry v ws)) o to next o2
    unfolding entry_bytes
    entry_done z o2 s =
        let h : to + 16 + 8 * n ≤ length o = omega (arith, room-none max_bytes next (length o) (sym eg ∙ z)) in
        let b = block_bytes ws in
        let x = to_le 8 v in
        let y = to_le 4 (4 + 8 * n) in
        let lx = length-to_le 8 v in
        let ly = length-to_le 4 (4 + 8 * n) in
        let lb : length b ≡ 4 + 8 * n = length-block_bytes ws ∙ rw d.number in
        let f : from ≡ to + 12 = omega (arith, ef) in
        let m = mid_of from (length o - from) o in
        let q : p ≡ sets m 0 b = stored-whole ws m n p d (omega (arith, length-drop from o, ap length (part-is from o))) in
        let c1 : o1 ≡ sets o from b = rw q (part-stored from (length o - from) o b (omega arith) (omega arith)) in
        let c : o1 ≡ sets o (to + 12) b = c1 ∙ ap (λ (z : ℕ). sets o z b) f in
        let e1 : stored o1 to x ≡ sets o1 to x = stored-fits o1 to x (omega (arith, same)) in
        let l1 : length (sets o1 to x) ≡ length o = length-sets o1 to x ∙ same in
        let e2 : stored (sets o1 to x) (to + 8) y ≡ sets (sets o1 to x) (to + 8) y = stored-fits (sets o1 to x) (to + 8) y (omega arith) in
        let j : to + length x ≡ to + 8 = omega arith in
        let k : to + length (x ++ y) ≡ to + 12 = omega (arith, length-append x y) in
        let w0 : sets (sets o1 to x) (to + 8) y ≡ sets o1 to (x ++ y) = rw j at (sym (sets-append o1 to x y)) in
        let w1 : stored (stored o1 to x) (to + 8) y ≡ sets (sets o (to + 12) b) to (x ++ y) = rw (e1, e2, ← c) w0 in
        let w2 : sets (sets o (to + 12) b) to (x ++ y) ≡ sets (sets o to (x ++ y)) (to + 12) b = sets-swap o to (x ++ y) (to + 12) b (omega (arith, length-append x y)) in
        let w3 : sets (sets o to (x ++ y)) (to + 12) b ≡ sets o to (x ++ (y ++ b)) = rw (← append_assoc x y b) (rw k at (sym (sets-append o to (x ++ y) b))) in
        let w : o2 ≡ sets o to (x ++ (y ++ b)) = s.written ∙ w1 ∙ w2 ∙ w3 in
        record {
          next = size;
          written = λ r. w ∙ rw lb;
          same = ap length w ∙ length-sets o to (x ++ (y ++ b));
        }
