-- The walk over two indexes: what is to come, stored after what is stored, stays the same. One law for each way through the code.
use mathlib.Core.Path.{◌≡◌, refl, sym, ◌∙◌, ap}
use mathlib.Core.List.{List, [], ◌∷◌, ◌++◌}
use Prim.Native.Nat.{ℕ, suc, ◌+◌, ◌*◌, ◌≤◌, ◌<◌}
use native.Mathlib.Omega.{arith}
use lib.ListN.{length, length-append}
use lib.Seq.{sets}
use Rattle.std.specs.Prelude.{Option, Some, None}
use Rattle.fields.specs.Bytes.{to_le, stored}
use Rattle.fields.proofs.Numbers.{length-to_le, sets-append, stored-fits}
use Rattle.fields.specs.Limits.{max_bytes}
use Rattle.boundary.specs.Merge.{combine, either}
use Rattle.boundary.specs.Values.{lesser_word}
use Rattle.run_list.specs.Blocks.{block_words}
use Rattle.bitmap.proofs.BlockMerge.{sets-swap}
use Rattle.index.specs.Index.{Entry, entry, entries, index_fault, entry_bytes, entries_bytes, index_bytes}
use Rattle.index.proofs.Entries.{open-index}
use Rattle.index.proofs.Sizes.{index-size, written-within}
use Rattle.index_merge.specs.Calls.{merged, merged_bytes}
use Rattle.index_merge.specs.Inner.{head_of, least_value, Taken, Room, WrittenAt, WrittenIndex}
use Rattle.index_merge.proofs.Merging.{none-merged, merged-step, head-least, no-head, merged-size, each-sixteen}

-- ---- the sizes of an index and of what two are merged into

module _ (s t : List ℕ) (e : index_fault s ≡ 0) (f : index_fault t ≡ 0) where
  abbrev both : List Entry
  both = merged (entries s) (entries t)

  pub both-within : length (merged_bytes s t) + 4 ≤ length (index_bytes (entries s)) + length (index_bytes (entries t))
  both-within = omega (arith, index-size both, index-size (entries s), index-size (entries t), merged-size (entries s) (entries t))

  both_small : length (merged_bytes s t) ≤ 2 * max_bytes
  both_small = omega (arith, both-within, written-within s e, written-within t f, (open-index s e).short, (open-index t f).short)

-- ---- the walk

-- all is what both indexes are merged into, left is what is to come of it; count entries are written, up to place `to`
pub record Walking (all : List Entry) (before : List ℕ) (left : List Entry) (count to : ℕ) (out : List ℕ) : Type 0 where
  pub number : count + length left ≡ length all
  pub place : to + length (entries_bytes left) ≡ length (index_bytes all)
  pub few : length all ≤ 1000000000
  pub small : length (index_bytes all) ≤ 2 * max_bytes
  pub same : length out ≡ length before
  pub stores : Room (length (index_bytes all)) before → sets out to (entries_bytes left) ≡ sets before 4 (entries_bytes all)

pub walking_start : (s t : List ℕ) → index_fault s ≡ 0 → index_fault t ≡ 0 → (es fs : List Entry) → es ≡ entries s → fs ≡ entries t → (out : List ℕ)
    → Walking (merged (entries s) (entries t)) out (merged es fs) 0 4 out
walking_start s t e f es fs de df out =
    let both = merged (entries s) (entries t) in
    let c : merged es fs ≡ both = rw (de, df) in
    record {
      number = rw c (omega arith);
      place = rw c (sym (index-size both));
      few = omega (arith, both_small s t e f, index-size both, each-sixteen both);
      small = both_small s t e f;
      same = refl;
      stores = λ _. rw c;
    }

module _ (all : List Entry) (before : List ℕ) (es fs : List Entry) (count to : ℕ) (out : List ℕ) (w : Walking all before (merged es fs) count to out) where
  -- an entry is written: that of the least value, with the words that are taken for it
  module _ (x y : Option ℕ) (ex : x ≡ head_of es) (ey : y ≡ head_of fs) (z : Option ℕ) (ez : z ≡ lesser_word x y) where
    module _ (v : ℕ) (ev : z ≡ Some v) (a b : List ℕ) (es' fs' : List Entry) (ta : Taken v es a es') (tb : Taken v fs b fs') where
      heads : lesser_word (head_of es) (head_of fs) ≡ Some v
      heads = rw (← ex, ← ey) (sym ez ∙ ev)

      some : 0 < length es + length fs
      some = (head-least es fs v heads).0

      least : v ≡ least_value es fs
      least = (head-least es fs v heads).1

      abbrev new : Entry
      new = entry v (combine either (block_words a) (block_words b))

      first : merged es fs ≡ new ∷ merged es' fs'
      first = merged-step es fs some v least ∙ rw (ta.words, tb.words, ta.rest, tb.rest)

      abbrev bytes : List ℕ
      bytes = entry_bytes new

      abbrev later : List Entry
      later = merged es' fs'

      come : entries_bytes (merged es fs) ≡ bytes ++ entries_bytes later
      unfolding entries_bytes
      come = rw first

      sizes : length (entries_bytes (merged es fs)) ≡ length bytes + length (entries_bytes later)
      sizes = ap length come ∙ length-append bytes (entries_bytes later)

      module _ (to' : ℕ) (out' : List ℕ) (u : WrittenAt bytes out to to' out') where
        -- it is stored where all of it will be
        stored_on : Room (length (index_bytes all)) before → sets out' to' (entries_bytes later) ≡ sets before 4 (entries_bytes all)
        stored_on h =
            let fit : Room (to + length bytes) out =
            record { room = omega (arith, sizes, w.place, w.same, h.room); limit = omega (arith, sizes, w.place, h.limit) } in
            let d : sets out' to' (entries_bytes later) ≡ sets (sets out to bytes) (to + length bytes) (entries_bytes later) = rw (u.next, u.written fit) in
            d ∙ sym (sets-append out to bytes (entries_bytes later)) ∙ rw (← come) (w.stores h)

        pub walking-next : Walking all before later (count + 1) to' out'
        walking-next =
            let k : length (merged es fs) ≡ suc (length later) = ap length first in
            record {
              number = omega (arith, w.number);
              place = omega (arith, sizes, w.place, u.next);
              few = w.few;
              small = w.small;
              same = u.same ∙ w.same;
              stores = stored_on;
            }

    -- at its end the number of the entries is stored in front of them
    module _ (h : z ≡ None) where
      done : merged es fs ≡ []
      done = let t = no-head es fs (rw (← ex, ← ey) (sym ez ∙ h)) in rw (t.0, t.1) (none-merged [])

      count-is : count ≡ length all
      count-is = let k : count + 0 ≡ length all = rw done at w.number in omega arith

      pub walked : (out' : List ℕ) → out' ≡ stored out 0 (to_le 4 count) → WrittenIndex all before to out'
      unfolding index_bytes entries_bytes
      walked out' d =
          let n : to + 0 ≡ length (index_bytes all) = rw done at w.place in
          record { number = omega arith; written = wrote }
        where
          wrote : Room (length (index_bytes all)) before → out' ≡ sets before 0 (index_bytes all)
          wrote r =
              let v = to_le 4 count in
              let lv = length-to_le 4 count in
              let b = entries_bytes all in
              let k : out ≡ sets before 4 b = rw done at (w.stores r) in
              let p : 0 + length v ≡ 4 = omega arith in
              let e1 : stored out 0 v ≡ sets out 0 v = stored-fits out 0 v (omega (arith, w.same, r.room, index-size all)) in
              let e2 : sets (sets before 4 b) 0 v ≡ sets (sets before 0 v) 4 b = sets-swap before 0 v 4 b (omega arith) in
              let e3 : sets (sets before 0 v) 4 b ≡ sets before 0 (v ++ b) = rw p at (sym (sets-append before 0 v b)) in
              let e4 : v ++ b ≡ index_bytes all = rw count-is in
              let e0 : sets out 0 v ≡ sets before 0 (v ++ b) = rw k (e2 ∙ e3) in
              rw (← e4) (d ∙ e1 ∙ e0)
