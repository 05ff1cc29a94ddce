-- Document 01's table, all rows as one statement. A row is a call and its answer: the refusal number, then the result's words where it is 0. What is claimed,
-- `Statement`: any call so made that meets its contract, with room for its result, gives the row's answer. Proved in proofs/TableCalls.antt.
use Rattle.std.specs.Prelude.{◌≡◌, List, [], ◌∷◌, ◌++◌, map, ℕ, ◌≤◌, length, take}
use Rattle.fields.specs.Refusal.{◌then◌}
use Rattle.fields.specs.Answers.{none, accepted}
use Rattle.fields.specs.Limits.{too_long, max_bytes, max_bits}
use Rattle.fields.specs.declared.outcome.Answer.{Answer}
use Rattle.fields.specs.declared.outcome.Number.{Number}
use Rattle.packed.specs.Bits.{set_below, cut_to}
use Rattle.run_list.specs.Runs.{fault2}
use Rattle.run_list.specs.Rows.{rows_below}
use Rattle.run_list.specs.Blocks.{block_fault, block_words, block_bytes}
use Rattle.run_list.specs.Calls.{Decoded}
use Rattle.boundary.specs.Merge.{combine, either, both, left_only}
use Rattle.bitmap.specs.Calls.{Combined}
use Rattle.packed_build.specs.Packed.{list_of, Packed}
use Rattle.run_rank.specs.RunRanks.{run_select, directory_fault, Ranks, Selects}
use Rattle.bit_rank.specs.BitRanks.{rank_fault, Total}
use Rattle.presence.specs.Present.{position_of, position_fault, Positions}
use Rattle.index.specs.Index.{entries, sample_bytes}
use Rattle.bitmap_index.specs.Filter.{keep, need, filter_fault, Filtered}
use Rattle.report.specs.Lines.{take_word, without_word}
use Rattle.report.specs.Report.{report, count_word, run_word, Reported}

-- what is asked; directories and blocks as they are handed in
pub data Asked : Type 0 where
  union intersect difference : (left right : List ℕ) → Asked
  decode : (block : List ℕ) → Asked
  rank select : (runs directory positions : List ℕ) → Asked
  from_packed_bits : (bits : List ℕ) → Asked
  position : (bits directory rows : List ℕ) → Asked
  total : (bits : List ℕ) (len : ℕ) (directory : List ℕ) → Asked
  filter : (index steps : List ℕ) → Asked
  program : (index text : List ℕ) → Asked

-- a call that was made: what stood in its output and its scratch, what it returned, what stands there then. Each call uses some of these
pub record Made : Type 0 where
  pub before : List ℕ
  pub scratch : List ℕ
  pub answer : Answer
  pub number : Number
  pub out : List ℕ
  pub scratch' : List ℕ

-- it meets the contract of what is asked
abbrev pub Meets : Asked → Made → Type 0
Meets (union left right) m = Combined either left right m.before m.answer m.out
Meets (intersect left right) m = Combined both left right m.before m.answer m.out
Meets (difference left right) m = Combined left_only left right m.before m.answer m.out
Meets (decode block) m = Decoded block m.before m.answer m.out
Meets (rank runs directory ps) m = Ranks runs directory ps m.before m.answer m.out
Meets (select runs directory ks) m = Selects runs directory ks m.before m.answer m.out
Meets (from_packed_bits bits) m = Packed bits m.before m.answer m.out
Meets (position bits directory rows) m = Positions bits directory rows m.before m.answer m.out
Meets (total bits len directory) m = Total bits len directory m.number
Meets (filter index steps) m = Filtered index steps m.before m.scratch m.answer m.out m.scratch'
-- what the program prints
Meets (program index text) m = Reported index text m.before m.answer m.out

-- the refusal, then the words where there is none
unfoldable pub given : ℕ → List ℕ → List ℕ
given f ws = f ∷ accepted f ws []

-- what a call that writes answered
abbrev pub written : Made → List ℕ
written m = m.answer.refusal ∷ take m.answer.len m.out

abbrev pub answered : Asked → Made → List ℕ
answered (union left right) m = written m
answered (intersect left right) m = written m
answered (difference left right) m = written m
answered (decode block) m = written m
answered (rank runs directory ps) m = written m
answered (select runs directory ks) m = written m
answered (from_packed_bits bits) m = written m
answered (position bits directory rows) m = written m
answered (total bits len directory) m = given m.number.refusal (m.number.number ∷ [])
answered (filter index steps) m = written m
answered (program index text) m = written m

-- the refusal but for want of room, and the result
unfoldable pub refusal_of : Asked → ℕ
refusal_of (union left right) = fault2 left right
refusal_of (intersect left right) = fault2 left right
refusal_of (difference left right) = fault2 left right
refusal_of (decode block) = too_long max_bytes block then block_fault block
refusal_of (rank runs directory ps) = directory_fault runs directory
refusal_of (select runs directory ks) = directory_fault runs directory
refusal_of (from_packed_bits bits) = too_long max_bits bits
refusal_of (position bits directory rows) = position_fault bits directory
refusal_of (total bits len directory) = rank_fault 512 bits (cut_to bits len) directory
refusal_of (filter index steps) = filter_fault index steps
refusal_of (program index text) = 0

unfoldable pub result_of : Asked → List ℕ
result_of (union left right) = combine either left right
result_of (intersect left right) = combine both left right
result_of (difference left right) = combine left_only left right
result_of (decode block) = block_words block
result_of (rank runs directory ps) = map (rows_below runs) ps
result_of (select runs directory ks) = map (run_select runs) ks
result_of (from_packed_bits bits) = list_of bits
result_of (position bits directory rows) = map (position_of bits) rows
result_of (total bits len directory) = set_below bits (cut_to bits len) ∷ []
result_of (filter index steps) = keep (entries index) steps
result_of (program index text) = report index text

-- there is room: for the result, and for a filter 2R words in each list
abbrev pub Room : Asked → Made → Type 0
Room (filter index steps) m = (need (entries index) ≤ length m.before) × (need (entries index) ≤ length m.scratch)
Room (total bits len directory) m = Unit {0}
Room (union left right) m = length (combine either left right) ≤ length m.before
Room (intersect left right) m = length (combine both left right) ≤ length m.before
Room (difference left right) m = length (combine left_only left right) ≤ length m.before
Room (decode block) m = length (block_words block) ≤ length m.before
Room (rank runs directory ps) m = length ps ≤ length m.before
Room (select runs directory ks) m = length ks ≤ length m.before
Room (from_packed_bits bits) m = length (list_of bits) ≤ length m.before
Room (position bits directory rows) m = length rows ≤ length m.before
Room (program index text) m = length (report index text) ≤ length m.before

-- the filter of document 01's program, over its index `sample_bytes`: "take,3", "without,7"; and its text
abbrev pub sample_steps : List ℕ
sample_steps = 1 ∷ 3 ∷ 4 ∷ 7 ∷ []

abbrev pub sample_text : List ℕ
sample_text = take_word ++ (51 ∷ 10 ∷ (without_word ++ (55 ∷ 10 ∷ [])))

-- "count,4", "run,0,2", "run,7,9"
abbrev pub sample_printed : List ℕ
sample_printed = count_word ++ (52 ∷ 10 ∷ (run_word ++ (48 ∷ 44 ∷ 50 ∷ 10 ∷ (run_word ++ (55 ∷ 44 ∷ 57 ∷ 10 ∷ [])))))

-- a row of the table: what is asked, and the answer
infix 3 ◌gives◌
pub record Row : Type 0 where
  pub asked : Asked
  pub answers : List ℕ

abbrev pub ◌gives◌ : Asked → List ℕ → Row
a gives ws = record { asked = a; answers = ws }

abbrev pub table : List Row
table =
    -- 1. 0-3, 5-6 union 3-5: 0-6
    (union (0 ∷ 3 ∷ 5 ∷ 6 ∷ []) (3 ∷ 5 ∷ []) gives 0 ∷ 0 ∷ 6 ∷ [])
    -- 2. 0-4 and 4-8: none
    ∷ (intersect (0 ∷ 4 ∷ []) (4 ∷ 8 ∷ []) gives 0 ∷ [])
    -- 3. 0-10 without 2-3, 5-12: 0-2, 3-5
    ∷ (difference (0 ∷ 10 ∷ []) (2 ∷ 3 ∷ 5 ∷ 12 ∷ []) gives 0 ∷ 0 ∷ 2 ∷ 3 ∷ 5 ∷ [])
    -- 4. Block of four zero bytes: no runs
    ∷ (decode (0 ∷ 0 ∷ 0 ∷ 0 ∷ []) gives 0 ∷ [])
    -- 5. Three bytes: 2
    ∷ (decode (0 ∷ 0 ∷ 0 ∷ []) gives 2 ∷ [])
    -- 6. Run 5-5: 3
    ∷ (decode (block_bytes (5 ∷ 5 ∷ [])) gives 3 ∷ [])
    -- 7. 0-3, 3-5: 4
    ∷ (decode (block_bytes (0 ∷ 3 ∷ 3 ∷ 5 ∷ [])) gives 4 ∷ [])
    -- 8. 0-3, 4-5: accepted
    ∷ (decode (block_bytes (0 ∷ 3 ∷ 4 ∷ 5 ∷ [])) gives 0 ∷ 0 ∷ 3 ∷ 4 ∷ 5 ∷ [])
    -- 9. Runs 2-4, 7-8: rank at 0, 2, 3, 4, 8 is 0, 0, 1, 2, 3
    ∷ (rank (2 ∷ 4 ∷ 7 ∷ 8 ∷ []) (0 ∷ 2 ∷ 3 ∷ []) (0 ∷ 2 ∷ 3 ∷ 4 ∷ 8 ∷ []) gives 0 ∷ 0 ∷ 0 ∷ 1 ∷ 2 ∷ 3 ∷ [])
    -- 10. Same: select 0 to 3 is 2, 3, 7, none
    ∷ (select (2 ∷ 4 ∷ 7 ∷ 8 ∷ []) (0 ∷ 2 ∷ 3 ∷ []) (0 ∷ 1 ∷ 2 ∷ 3 ∷ []) gives 0 ∷ 2 ∷ 3 ∷ 7 ∷ none ∷ [])
    -- 11. Byte 0x0D: 0-1, 2-4
    ∷ (from_packed_bits (0x0D ∷ []) gives 0 ∷ 0 ∷ 1 ∷ 2 ∷ 4 ∷ [])
    -- 12. Byte 0x0D, rows 0, 1, 2, 3, 8: 0, none, 1, 2, none
    ∷ (position (0x0D ∷ []) (0 ∷ []) (0 ∷ 1 ∷ 2 ∷ 3 ∷ 8 ∷ []) gives 0 ∷ 0 ∷ none ∷ 1 ∷ 2 ∷ none ∷ [])
    -- 13. Byte 0xFF, len 5: total 5
    ∷ (total (0xFF ∷ []) 5 (0 ∷ []) gives 0 ∷ 5 ∷ [])
    -- 14. The program's index and filter: the runs that it keeps, and what it prints
    ∷ (filter sample_bytes sample_steps gives 0 ∷ 0 ∷ 2 ∷ 7 ∷ 9 ∷ [])
    ∷ (program sample_bytes sample_text gives 0 ∷ sample_printed)
    ∷ []

-- P of each row
abbrev pub EachRow : (Row → Type 0) → List Row → Type 0
EachRow P [] = Unit {0}
EachRow P (r ∷ rows) = P r × EachRow P rows

-- ---- the statement; row 14 stands in the table twice
pub record Statement : Type 0 where
  pub rows : EachRow (λ r. (m : Made) → Meets r.asked m → Room r.asked m → answered r.asked m ≡ r.answers) table
  pub number : length table ≡ 15
  pub bytes : length sample_bytes ≡ 84
