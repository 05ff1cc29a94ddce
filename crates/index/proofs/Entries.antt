-- The head of an entry, one law for each way through the code that judges it; what is known of each entry of an index that is not refused; and the bytes of
-- an entry, written.
use mathlib.Core.Path.{◌≡◌, refl, sym, ap, ◌∙◌}
use mathlib.Core.List.{List, [], ◌∷◌}
use Prim.Native.Nat.{ℕ, zero, suc, ◌+◌, ◌*◌, ◌≤◌, ◌-◌, ◌<◌}
use native.Mathlib.Omega.{arith}
use borrow.Author.Tests.{ltb-false, lt-ltb, le-ltb}
use lib.ListN.{length, take, drop, length-drop}
use lib.Seq.{take-take, length-take-le, get_or-drop}
use mathlib.Core.Bool.{Bool, true, false}
use native.Mathlib.Nat.{add-sub_cancel_left}
use lib.Dec.{ltb}
use Rattle.fields.specs.Bytes.{number_at, Bytes}
use Rattle.fields.proofs.Numbers.{part-number, part-word}
use Rattle.fields.proofs.Refusals.{front-none, rest-none, when-none}
use Rattle.fields.specs.Limits.{max_bytes}
use Rattle.fields.proofs.Limits.{none-long}
use Rattle.run_list.specs.Blocks.{block_fault, block_runs, block_words, exact_block, block_bytes}
use Rattle.run_list.proofs.BlockWords.{block_fault-none, runs-within}
use Rattle.run_list.proofs.RoundTrip.{read-writes}
use Rattle.index.specs.Index.{value_at, length_at, block_at, next_at, head_fault, entries_fault, entry_count, index_fault}
use Rattle.fields.specs.Refusal.{when, ◌then◌}

-- ---- the fields of a head, each read from the part where it is

module _ (s : List ℕ) (at r : ℕ) where
  pub head_value : r ≡ number_at 8 (take (at + 8 - at) (drop at s)) 0 → r ≡ value_at s at
  head_value e = part-word s at (at + 8) refl r e

  pub head_length : r ≡ number_at 4 (take (at + 12 - (at + 8)) (drop (at + 8) s)) 0 → r ≡ length_at s at
  head_length e = let z : at + 8 + 0 ≡ at + 8 = omega arith in e ∙ part-number 4 0 s (at + 8) (at + 12) (omega arith) ∙ ap (number_at 4 s) z

-- ---- the fault

module _ (s : List ℕ) (at lo : ℕ) (w : at ≤ length s) where
  pub head-no-value : length s - at < 8 → 2 ≡ head_fault s at lo
  unfolding head_fault when ◌then◌
  head-no-value h = rw (lt-ltb (length s) (at + 8) (omega arith))

  module _ (h : 8 ≤ length s - at) (v : ℕ) (ev : v ≡ value_at s at) (t : Bool) (et : t ≡ ltb v lo) where
    order : ltb (value_at s at) lo ≡ t
    order = rw (← ev) (sym et)

    pub head-low : t ≡ true → 5 ≡ head_fault s at lo
    unfolding head_fault when ◌then◌
    head-low e = rw (le-ltb (length s) (at + 8) (omega arith), order, e)

    module _ (e : t ≡ false) where
      pub head-no-length : length s - at < 12 → 2 ≡ head_fault s at lo
      unfolding head_fault when ◌then◌
      head-no-length g = rw (le-ltb (length s) (at + 8) (omega arith), order, e, lt-ltb (length s) (at + 12) (omega arith))

      module _ (g : 12 ≤ length s - at) (n : ℕ) (en : n ≡ length_at s at) where
        pub head-no-block : length s - at - 12 < n → 2 ≡ head_fault s at lo
        unfolding head_fault when ◌then◌
        head-no-block l =
            rw (le-ltb (length s) (at + 8) (omega arith), order, e, le-ltb (length s) (at + 12) (omega arith), lt-ltb (length s) (next_at s at) (omega arith))

        pub head-right : n ≤ length s - at - 12 → 0 ≡ head_fault s at lo
        unfolding head_fault when ◌then◌
        head-right l =
            rw (le-ltb (length s) (at + 8) (omega arith), order, e, le-ltb (length s) (at + 12) (omega arith), le-ltb (length s) (next_at s at) (omega arith))

-- ---- past it

pub head-fits : (s : List ℕ) (at lo : ℕ) → head_fault s at lo ≡ 0 → next_at s at ≤ length s
unfolding head_fault
head-fits s at lo e = ltb-false _ _ (when-none _ 1 (rest-none _ _ (rest-none _ _ (rest-none _ _ e))))

pub head-whole : (s : List ℕ) (at lo : ℕ) → head_fault s at lo ≡ 0 → at + 12 ≤ length s
head-whole s at lo e = omega (arith, head-fits s at lo e)

-- the part that the code takes is the entry's block
pub block-part : (s : List ℕ) (at len : ℕ) → len ≡ length_at s at → take (at + 12 + len - (at + 12)) (drop (at + 12) s) ≡ block_at s at
unfolding block_at
block-part s at len e = rw (e, add-sub_cancel_left (at + 12) (length_at s at))

-- ---- opening

head-rises : (s : List ℕ) (at lo : ℕ) → head_fault s at lo ≡ 0 → lo ≤ value_at s at
unfolding head_fault
head-rises s at lo e = ltb-false (value_at s at) lo (when-none _ 4 (front-none _ _ (rest-none _ _ e)))

-- the block of an entry that fits has the length that its head says
pub length-block : (s : List ℕ) (at : ℕ) → next_at s at ≤ length s → length (block_at s at) ≡ length_at s at
unfolding block_at
length-block s at h = length-take-le (length_at s at) (drop (at + 12) s) (omega (arith, length-drop (at + 12) s))

-- its first field is the count of its runs
block-count : (s : List ℕ) (at : ℕ) → 4 ≤ length_at s at → number_at 4 (block_at s at) 0 ≡ number_at 4 s (at + 12)
unfolding block_at
block-count s at h =
    let z : at + 12 + 0 ≡ at + 12 = omega arith in
    rw (add-sub_cancel_left (at + 12) (length_at s at), z) at (part-number 4 0 s (at + 12) (next_at s at) (omega arith))

-- the entry at a place is not refused: the index has it whole, and its block all its counted runs
pub record EntryFits (s : List ℕ) (at : ℕ) : Type 0 where
  pub fits : next_at s at ≤ length s
  pub count : number_at 4 s (at + 12) ≡ block_runs (block_at s at)
  pub runs : 4 + 16 * block_runs (block_at s at) ≤ length_at s at
  pub right : block_fault (block_at s at) ≡ 0

entry-fits : (s : List ℕ) (at : ℕ) → next_at s at ≤ length s → block_fault (block_at s at) ≡ 0 → EntryFits s at
unfolding block_at
entry-fits s at f e =
    let w = block_fault-none (block_at s at) e in
    let l = length-block s at f in
    let i : number_at 4 (block_at s at) 0 ≡ number_at 4 s (at + 12) = block-count s at (omega (arith, w.counted, l)) in
    record { fits = f; count = sym (w.all ∙ i); runs = omega (arith, runs-within (block_at s at) w.counted); right = e }

-- the first of the entries from a place on, and those after it
pub record Opened (n : ℕ) (s : List ℕ) (at lo : ℕ) : Type 0 where
  pub fit : EntryFits s at
  pub low : lo ≤ value_at s at
  pub rest : entries_fault n s (next_at s at) (suc (value_at s at)) ≡ 0

pub open-first : (n : ℕ) (s : List ℕ) (at lo : ℕ) → entries_fault (suc n) s at lo ≡ 0 → Opened n s at lo
unfolding entries_fault
open-first n s at lo e =
    let f = front-none (head_fault s at lo) _ e in
    let r = rest-none (head_fault s at lo) _ e in
    record {
      fit = entry-fits s at (head-fits s at lo f) (front-none (block_fault (block_at s at)) _ r);
      low = head-rises s at lo f;
      rest = rest-none (block_fault (block_at s at)) _ r;
    }

pub record Started (s : List ℕ) : Type 0 where
  pub short : length s ≤ max_bytes
  pub counted : 4 ≤ length s
  pub right : entries_fault (entry_count s) s 4 0 ≡ 0

pub open-index : (s : List ℕ) → index_fault s ≡ 0 → Started s
unfolding index_fault
open-index s e =
    let r = rest-none _ _ e in
    record {
      short = none-long max_bytes s (front-none _ _ e);
      counted = ltb-false (length s) 4 (when-none _ 1 (front-none _ _ r));
      right = rest-none _ _ r;
    }

-- ---- what is written for an entry

take-bytes : (n : ℕ) (l : List ℕ) → Bytes l → Bytes (take n l)
take-bytes zero l all i = omega arith
take-bytes (suc n) [] all i = omega arith
take-bytes (suc n) (x ∷ l) all zero = all 0
take-bytes (suc n) (x ∷ l) all (suc i) = take-bytes n l (λ j. all (suc j)) i

pub block-bytes : (s : List ℕ) (at : ℕ) → Bytes s → Bytes (block_at s at)
unfolding block_at
block-bytes s at all = take-bytes (length_at s at) (drop (at + 12) s) (λ i. rw (get_or-drop (at + 12) s i 0) (all (at + 12 + i)))

pub block_written : (s : List ℕ) (at : ℕ) → EntryFits s at → Bytes s
    → block_bytes (block_words (block_at s at)) ≡ take (4 + 16 * block_runs (block_at s at)) (drop (at + 12) s)
unfolding block_at exact_block
block_written s at t all =
    let b = block_at s at in
    let k : exact_block b ≡ take (4 + 16 * block_runs b) b = rw (block_fault-none b t.right).all in
    read-writes b (block-bytes s at all) t.right ∙ k ∙ take-take (4 + 16 * block_runs b) (length_at s at) (drop (at + 12) s) t.runs
