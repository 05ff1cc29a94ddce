-- The bounds of specs/Bounds.antt are enough: a call that meets its contract, with an output of that length, is refused only for its inputs, or with 10 because
-- its result is past the limit of its length. Each law is one of the three laws of room with the length of a result.
use mathlib.Core.Path.{ap, ◌≡◌, refl, sym, ◌∙◌}
use mathlib.Core.Bool.{Bool}
use mathlib.Core.Logic.{⊎_elim}
use mathlib.Core.List.{List}
use Prim.Native.Nat.{ℕ, zero, suc, ◌+◌, ◌-◌, ◌*◌, ◌/◌, ◌≤◌, ◌<◌, min}
use native.Mathlib.Omega.{arith}
use borrow.Author.Tests.{lt-ltb, le-ltb}
use lib.ListN.{length}
use Rattle.fields.specs.Refusal.{◌then◌}
use Rattle.fields.specs.Answers.{short, short2}
use Rattle.fields.specs.Limits.{too_long, past_limit, no_room, max_words, max_bytes, max_bits}
use Rattle.fields.specs.declared.outcome.Answer.{Answer}
use Rattle.fields.proofs.Refusals.{then-none, then-assoc, front-none, when_true, when_false}
use Rattle.fields.proofs.Limits.{long-none, none-long, room-short}
use Rattle.fields.proofs.Tests.{split-le}
use Rattle.packed.specs.Bits.{cut_to}
use Rattle.packed.proofs.Entries.{length-counts}
use Rattle.run_list.specs.Runs.{fault, fault2}
use Rattle.run_list.specs.Blocks.{block_fault, block_runs}
use Rattle.run_list.specs.Calls as BlockCalls
use Rattle.run_list.proofs.Validity.{fault-accepted}
use Rattle.run_list.proofs.BlockWords.{length-block_words}
use Rattle.run_list.proofs.RoundTrip.{length-block_bytes}
use Rattle.boundary.specs.Merge.{combine}
use Rattle.boundary.proofs.Combining.{combine-length}
use Rattle.bitmap.specs.Calls.{Combined}
use Rattle.packed_build.specs.Packed.{list_of, Packed}
use Rattle.packed_build.proofs.PackedLaws.{list_of-length}
use Rattle.bitmap_build.specs.Build.{ranges, rows_fault, ranges_fault, Built}
use Rattle.bitmap_build.proofs.Inputs.{ranges-length, rows_few, ranges-few}
use Rattle.run_rank.specs.RunRanks as RunRanks
use Rattle.run_rank.specs.RunRanks.{directory_fault, RanksAndContains}
use Rattle.run_rank.proofs.RunLaws.{length-run_directory}
use Rattle.bit_rank.specs.BitRanks as BitRanks
use Rattle.bit_rank.specs.BitRanks.{bit_directory, rank_fault, range_fault}
use Rattle.bit_rank.proofs.BitLaws.{length-ranges}
use Rattle.bit_select.specs.BitSelects as BitSelects
use Rattle.presence.specs.Present as Present
use Rattle.presence.specs.Present.{position_fault, Positions}
use Rattle.presence.proofs.PresentLaws.{length-directory}
use Rattle.index.specs.Index.{index_fault, entries, index_bytes}
use Rattle.index.specs.Calls.{Read}
use Rattle.index.specs.declared.IndexRead.{IndexRead}
use Rattle.index.proofs.Entries.{open-index}
use Rattle.index.proofs.Sizes.{index-size, written-within}
use Rattle.index_write.specs.Calls as IndexCalls
use Rattle.index_write.specs.Calls.{inserted, insert_fault, Inserted}
use Rattle.index_merge.specs.Calls.{merge_fault, merged_bytes, Merged}
use Rattle.index_merge.proofs.Walking.{both-within}
use Rattle.index_merge.proofs.Calling.{fault-first, fault-second}
use Rattle.bitmap_index.specs.Filter.{need, filter_fault, take_then_ands, values_fault, Kept, Filtered, Intersected}
use Rattle.fields.proofs.Answers.{accepted-none}
use Rattle.index.specs.Index.{all_runs}
use Rattle.demands.specs.Bounds.{combined_bound, block_decode_bound, block_encode_bound, from_rows_bound, from_ranges_bound, from_packed_bits_bound, index_encode_bound, index_insert_bound, index_merge_bound, filter_bound, run_directory_bound, positions_bound, bit_directory_bound, pairs_bound, presence_directory_bound}
use Rattle.demands.proofs.Theorem.{short_none}
use Rattle.demands.proofs.TableCalls.{then-last, short-both}
use Rattle.demands.proofs.InsertedRows.{inserted-size, index-judged, fault-index}

-- ---- room: f is the refusal of the inputs, n what is needed

-- what stands after a refusal counts only where there is none
pub then_same : (f g h : ℕ) → (f ≡ 0 → g ≡ h) → (f then g) ≡ (f then h)
unfolding ◌then◌
then_same zero g h e = e refl
then_same (suc f) g h e = refl

then-alone : (f g : ℕ) → (f ≡ 0 → g ≡ 0) → (f then g) ≡ f
then-alone f g e = then_same f g 0 e ∙ then-last f 0 refl

-- a result without room is past its limit
only-limit : (limit n room : ℕ) → (room < n → limit < n) → no_room limit n room ≡ past_limit limit n
unfolding no_room
only-limit limit n room p =
    ⊎_elim
    (λ h. then-none _ _ (short_none n room h.1))
    (λ h. sym (room-short limit n room h.1) ∙ sym (when_true _ 10 (lt-ltb limit n (p h.1))))
    (split-le n room)

module _ (f n : ℕ) where
  pub enough : (room : ℕ) → (f ≡ 0 → n ≤ room) → (f then short n room) ≡ f
  enough room h = then-alone f _ (λ z. short_none n room (h z))

  pub enough2 : (room room₂ : ℕ) → (f ≡ 0 → n ≤ room) → (f ≡ 0 → n ≤ room₂) → (f then short2 n room room₂) ≡ f
  enough2 room room₂ h k = then-alone f _ (λ z. short-both n room room₂ (h z) (k z))

  -- a result with a limit: n is at most the bound, which is cut to the limit
  pub enough-limit : (limit bound room : ℕ) → (f ≡ 0 → n ≤ bound) → min limit bound ≤ room → (f then no_room limit n room) ≡ (f then past_limit limit n)
  enough-limit limit bound room h k = then_same f _ _ (λ z. only-limit limit n room (λ p. omega (arith, h z)))

  pub within-limit : (limit : ℕ) → n ≤ limit → (f then past_limit limit n) ≡ f
  within-limit limit h = then-alone f _ (λ z. when_false _ 10 (le-ltb limit n h))

-- ---- set operations

module _ (op : Bool → Bool → Bool) (left right before out : List ℕ) (r : Answer) where
  module _ (h : combined_bound (length left) (length right) ≤ length before) (c : Combined op left right before r out) where
    pub combined-bound : r.refusal ≡ (fault2 left right then past_limit max_words (length (combine op left right)))
    combined-bound = c.refusal ∙ enough-limit _ _ max_words (length left + length right) _ (λ z. combine-length op left right) h

    -- two lists that together have no more words than a list may have are refused only for their own faults
    pub combined-accepted : length left + length right ≤ max_words → r.refusal ≡ fault2 left right
    combined-accepted k = combined-bound ∙ within-limit _ (length (combine op left right)) max_words (omega (arith, combine-length op left right))

-- ---- blocks

module _ (block before out : List ℕ) (r : Answer) where
  pub decoded-bound : block_decode_bound (length block) ≤ length before → BlockCalls.Decoded block before r out
      → r.refusal ≡ (too_long max_bytes block then block_fault block)
  unfolding block_runs
  decoded-bound h c =
      c.refusal
      ∙ sym (then-assoc _ _ _)
      ∙ enough _ _ _ (λ z. omega (arith, h, length-block_words block, none-long max_bytes block (front-none _ _ z)))

module _ (runs before out : List ℕ) (r : Answer) where
  pub block-encoded-bound : block_encode_bound (length runs) ≤ length before → BlockCalls.Encoded runs before r out → r.refusal ≡ fault runs
  block-encoded-bound h c = c.refusal ∙ enough _ _ _ (λ z. omega (arith, h, length-block_bytes runs, (fault-accepted runs z).limit))

-- ---- building

module _ (rows before out : List ℕ) (r : Answer) where
  pub rows_bound : from_rows_bound (length rows) ≤ length before → Built (rows_fault rows) (ranges rows) before r out → r.refusal ≡ rows_fault rows
  rows_bound h c = c.refusal ∙ enough _ _ _ (λ z. omega (arith, h, ranges-length rows, rows_few rows z))

module _ (ws before out : List ℕ) (r : Answer) where
  pub ranges-bound : from_ranges_bound (length ws) ≤ length before → Built (ranges_fault ws) ws before r out → r.refusal ≡ ranges_fault ws
  ranges-bound h c = c.refusal ∙ enough _ _ _ (λ z. omega (arith, h, ranges-few ws z))

module _ (bits before out : List ℕ) (r : Answer) where
  module _ (h : from_packed_bits_bound (length bits) ≤ length before) (c : Packed bits before r out) where
    pub packed-bound : r.refusal ≡ (too_long max_bits bits then past_limit max_words (length (list_of bits)))
    packed-bound = c.refusal ∙ enough-limit _ _ max_words (8 * length bits) _ (λ z. omega (arith, list_of-length bits)) h

    -- bytes that have no more bits than a list may have words are never refused
    pub packed-accepted-bound : length bits ≤ 67108863 → r.refusal ≡ 0
    packed-accepted-bound k =
        packed-bound ∙ within-limit _ (length (list_of bits)) max_words (omega (arith, list_of-length bits)) ∙ sym (long-none max_bits bits (omega arith))

-- ---- indexes

module _ (s before out : List ℕ) (r : Answer) where
  pub index-encoded-bound : index_encode_bound (length s) ≤ length before → IndexCalls.Encoded s before r out → r.refusal ≡ index_fault s
  index-encoded-bound h c = c.refusal ∙ enough _ _ _ (λ z. omega (arith, h, written-within s z, (open-index s z).short))

module _ (s : List ℕ) (v : ℕ) (ws before out : List ℕ) (r : Answer) where
  pub inserted-bound : index_insert_bound (length s) (length ws) ≤ length before → Inserted s v ws before r out
      → r.refusal ≡ (insert_fault s ws then past_limit max_bytes (length (index_bytes (inserted v ws (entries s)))))
  inserted-bound h c =
      let es = entries s in
      c.refusal
      ∙ enough-limit _ _ max_bytes (length s + 16 + 8 * length ws) _
      (λ z. omega (arith, index-size (inserted v ws es), inserted-size v ws es, index-size es, written-within s (fault-index s ws z))) h

module _ (s t before out : List ℕ) (r : Answer) where
  pub merged-bound : index_merge_bound (length s) (length t) ≤ length before → Merged s t before r out
      → r.refusal ≡ (merge_fault s t then past_limit max_bytes (length (merged_bytes s t)))
  merged-bound h c =
      c.refusal
      ∙ enough-limit _ _ max_bytes (length s + length t - 4) _
      (λ z. let e = fault-first s t z in let f = fault-second s t z in omega (arith, both-within s t e f, written-within s e, written-within t f)) h

room-is : (s : List ℕ) (k : IndexRead) → Read s k → index_fault s ≡ 0 → 2 * k.runs ≡ need (entries s)
unfolding need
room-is s k known z = ap (λ (n : ℕ). 2 * n) (known.total ∙ accepted-none (index_fault s) (all_runs (entries s)) 0 z)

-- a filter, by the runs that reading the index gives. Where the index is refused they are 0, and the call has that refusal, whatever the room
module _ (s before scratch out scratch' : List ℕ) (r : Answer) (k : IndexRead) (known : Read s k)
    (h : filter_bound k.runs ≤ length before) (h₂ : filter_bound k.runs ≤ length scratch) where
  kept-bound : (f : ℕ) (steps : List ℕ) → (f ≡ 0 → index_fault s ≡ 0) → Kept f s steps before scratch r out scratch' → r.refusal ≡ f
  kept-bound f steps i c = c.first.refusal ∙ enough2 f _ _ _ (fits (length before) h) (fits (length scratch) h₂)
    where
      fits : (room : ℕ) → filter_bound k.runs ≤ room → f ≡ 0 → need (entries s) ≤ room
      fits room l z = omega (arith, room-is s k known (i z))

  pub filtered-bound : (steps : List ℕ) → Filtered s steps before scratch r out scratch' → r.refusal ≡ filter_fault s steps
  unfolding filter_fault
  filtered-bound steps c = kept-bound (filter_fault s steps) steps (index-judged s _ _ (front-none _ _)) c

  pub intersected-bound : (values : List ℕ) → Intersected s values before scratch r out scratch' → r.refusal ≡ values_fault s values
  unfolding values_fault
  intersected-bound values c = kept-bound (values_fault s values) (take_then_ands values) (index-judged s _ _ (λ z. z)) c

-- ---- ranks over run lists

module _ (runs before out : List ℕ) (r : Answer) where
  pub run-directory-bound : run_directory_bound (length runs) ≤ length before → RunRanks.Directory runs before r out → r.refusal ≡ fault runs
  run-directory-bound h c = c.refusal ∙ enough _ _ _ (λ z. omega (arith, h, length-run_directory runs, (fault-accepted runs z).limit))

module _ (runs directory positions before out : List ℕ) (r : Answer) (h : positions_bound (length positions) ≤ length before) where
  pub run-ranks-bound : RunRanks.Ranks runs directory positions before r out → r.refusal ≡ directory_fault runs directory
  run-ranks-bound c = c.refusal ∙ enough _ _ _ (λ z. h)

  pub run-selects-bound : RunRanks.Selects runs directory positions before r out → r.refusal ≡ directory_fault runs directory
  run-selects-bound c = c.refusal ∙ enough _ _ _ (λ z. h)

  pub run-ranks-contains-bound : (before₂ out₂ : List ℕ) → positions_bound (length positions) ≤ length before₂
      → RanksAndContains runs directory positions before before₂ r out out₂ → r.refusal ≡ directory_fault runs directory
  run-ranks-contains-bound before₂ out₂ h₂ c = c.first.refusal ∙ enough2 _ _ _ _ (λ z. h) (λ z. h₂)

-- ---- rank and select over packed bits

module _ (bits : List ℕ) (len : ℕ) (before out : List ℕ) (r : Answer) where
  pub bit-directory-bound : bit_directory_bound (length bits) len ≤ length before → BitRanks.Directory bits len before r out → r.refusal ≡ too_long max_bits bits
  unfolding bit_directory cut_to
  bit-directory-bound h c =
      c.refusal ∙ enough _ _ _ (λ z. omega (arith, h, length-counts 512 bits 0 (cut_to bits len / 512 + 1), none-long max_bits bits z))

  module _ (directory : List ℕ) where
    pub bit-ranks-bound : (positions : List ℕ) → positions_bound (length positions) ≤ length before → BitRanks.Ranks bits len directory positions before r out
        → r.refusal ≡ rank_fault 512 bits (cut_to bits len) directory
    bit-ranks-bound positions h c = c.refusal ∙ enough _ _ _ (λ z. h)

    pub bit-selects-bound : (ks : List ℕ) → positions_bound (length ks) ≤ length before → BitSelects.Selects bits len directory ks before r out
        → r.refusal ≡ rank_fault 512 bits (cut_to bits len) directory
    bit-selects-bound ks h c = c.refusal ∙ enough _ _ _ (λ z. h)

    pub bit-ranges-bound : (pairs : List ℕ) → pairs_bound (length pairs) ≤ length before → BitRanks.Ranges bits len directory pairs before r out
        → r.refusal ≡ range_fault 512 bits (cut_to bits len) directory pairs
    bit-ranges-bound pairs h c = c.refusal ∙ enough _ _ _ (λ z. omega (arith, h, length-ranges bits (cut_to bits len) pairs))

-- ---- presence

module _ (bits before out : List ℕ) (r : Answer) where
  pub presence-directory-bound : presence_directory_bound (length bits) ≤ length before → Present.Directory bits before r out → r.refusal ≡ too_long max_bits bits
  presence-directory-bound h c = c.refusal ∙ enough _ _ _ (λ z. omega (arith, h, length-directory bits, none-long max_bits bits z))

  pub positions-bound : (directory rows : List ℕ) → positions_bound (length rows) ≤ length before → Positions bits directory rows before r out
      → r.refusal ≡ position_fault bits directory
  positions-bound directory rows h c = c.refusal ∙ enough _ _ _ (λ z. h)
