-- Index bytes (document 01, "Block and index bytes"): "a 32-bit entry count, then per entry a 64-bit value, a 32-bit block length and that many bytes
-- of block. Values strictly rise."
use Rattle.std.specs.Prelude.{Bool, false, cond, ◌||◌, List, [], ◌∷◌, ◌++◌, ℕ, zero, suc, ◌+◌, ◌/◌, ltb, eqb, length, take, drop}
use Rattle.fields.specs.Refusal.{when, ◌then◌}
use Rattle.fields.specs.Bytes.{number_at, to_le}
use Rattle.fields.specs.Limits.{too_long, max_bytes}
use Rattle.run_list.specs.Blocks.{block_fault, block_words, block_bytes}

-- an entry: a value and the run list of its rows
pub record Entry : Type 0 where
  pub value : ℕ
  pub words : List ℕ

abbrev pub entry : ℕ → List ℕ → Entry
entry v ws = record { value = v; words = ws }

-- ---- reading

-- the entry at a place: its value, the length of its block, its block, the place after it. "A block of length L is read as the part of the index that
-- starts after its length field and has L bytes"
abbrev pub value_at : List ℕ → ℕ → ℕ
value_at s at = number_at 8 s at

abbrev pub length_at : List ℕ → ℕ → ℕ
length_at s at = number_at 4 s (at + 8)

unfoldable pub block_at : List ℕ → ℕ → List ℕ
block_at s at = take (length_at s at) (drop (at + 12) s)

abbrev pub next_at : List ℕ → ℕ → ℕ
next_at s at = at + 12 + length_at s at

-- the head of an entry, its value and its length field. "Per entry: value read, value order, length read, block taken"; the value is at least lo
unfoldable pub head_fault : List ℕ → ℕ → ℕ → ℕ
head_fault s at lo =
    when (ltb (length s) (at + 8)) 2
    then when (ltb (value_at s at) lo) 5
    then when (ltb (length s) (at + 12)) 2
    then when (ltb (length s) (next_at s at)) 2

-- "block read": n entries from a place on, in reading order
unfoldable pub entries_fault : ℕ → List ℕ → ℕ → ℕ → ℕ
unfolding head_fault block_at
entries_fault zero s at lo = 0
entries_fault (suc n) s at lo = head_fault s at lo then block_fault (block_at s at) then entries_fault n s (next_at s at) (suc (value_at s at))

abbrev pub entry_at : List ℕ → ℕ → Entry
entry_at s at = record { value = value_at s at; words = block_words (block_at s at) }

unfoldable pub entry_list : ℕ → List ℕ → ℕ → List Entry
unfolding block_at
entry_list zero s at = []
entry_list (suc n) s at = entry_at s at ∷ entry_list n s (next_at s at)

abbrev pub entry_count : List ℕ → ℕ
entry_count s = number_at 4 s 0

-- the faults 2 to 5, in reading order. "Bytes after the last entry are ignored"
abbrev pub bytes_fault : List ℕ → ℕ
bytes_fault s = when (ltb (length s) 4) 2 then entries_fault (entry_count s) s 4 0

unfoldable pub index_fault : List ℕ → ℕ
unfolding entries_fault
index_fault s = too_long max_bytes s then bytes_fault s

-- the entries of an index that is not refused
unfoldable pub entries : List ℕ → List Entry
unfolding entry_list
entries s = entry_list (entry_count s) s 4

-- R, "the runs of all entries together"
unfoldable pub all_runs : List Entry → ℕ
all_runs [] = 0
all_runs (e ∷ es) = length e.words / 2 + all_runs es

-- ---- writing: "exact lengths, 4 + 16 times runs per block"

unfoldable pub entry_bytes : Entry → List ℕ
entry_bytes e = to_le 8 e.value ++ (to_le 4 (length (block_bytes e.words)) ++ block_bytes e.words)

unfoldable pub entries_bytes : List Entry → List ℕ
unfolding entry_bytes
entries_bytes [] = []
entries_bytes (e ∷ es) = entry_bytes e ++ entries_bytes es

unfoldable pub index_bytes : List Entry → List ℕ
unfolding entries_bytes
index_bytes es = to_le 4 (length es) ++ entries_bytes es

-- ---- lookup: the exact block of a value, none where it is missing
unfoldable pub block_of : List Entry → ℕ → List ℕ
block_of [] v = []
block_of (e ∷ es) v = cond (eqb e.value v) (block_bytes e.words) (block_of es v)

-- the runs of a value, none where it is missing
unfoldable pub words_of : List Entry → ℕ → List ℕ
words_of [] u = []
words_of (e ∷ es) u = cond (eqb e.value u) e.words (words_of es u)

-- a value is present when an entry has it, "even with no runs"
unfoldable pub present : List Entry → ℕ → Bool
present [] v = false
present (e ∷ es) v = eqb e.value v || present es v

-- the index of document 01's program: "value 3 with runs 0 to 4 and 6 to 9, value 7 with run 2 to 7 (84 bytes)"
unfoldable pub sample : List Entry
sample = entry 3 (0 ∷ 4 ∷ 6 ∷ 9 ∷ []) ∷ entry 7 (2 ∷ 7 ∷ []) ∷ []

abbrev pub sample_bytes : List ℕ
sample_bytes = index_bytes sample
