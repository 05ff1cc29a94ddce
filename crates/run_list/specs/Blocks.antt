-- Blocks (document 01, "Block and index bytes"): "a 32-bit run count, then start and end of each run, 64 bits each".
use Rattle.std.specs.Prelude.{List, [], ◌∷◌, ◌++◌, ℕ, zero, suc, ◌+◌, ◌-◌, ◌*◌, ◌/◌, min, ltb, length, take}
use Rattle.fields.specs.Refusal.{when, ◌then◌}
use Rattle.fields.specs.Bytes.{number_at, to_le}
use Rattle.run_list.specs.Runs.{run_fault}

-- ---- reading

-- the run count
abbrev pub run_count : List ℕ → ℕ
run_count block = number_at 4 block 0

-- the refusal of the run at a place, its start at least lo. "Per run: start read, end read, empty, order"
abbrev pub run_at_fault : List ℕ → ℕ → ℕ → ℕ
run_at_fault block at lo =
    when (ltb (length block) (at + 8)) 2
    then when (ltb (length block) (at + 16)) 2
    then run_fault lo (number_at 8 block at) (number_at 8 block (at + 8))

-- the refusal of n runs from a place on, the first start at least lo
unfoldable pub read_fault : ℕ → List ℕ → ℕ → ℕ → ℕ
read_fault zero block at lo = 0
read_fault (suc n) block at lo = run_at_fault block at lo then read_fault n block (at + 16) (suc (number_at 8 block (at + 8)))

-- "Bytes after the last counted run are ignored"
unfoldable pub block_fault : List ℕ → ℕ
unfolding read_fault
block_fault block = when (ltb (length block) 4) 2 then read_fault (run_count block) block 4 0

-- n words from a place on
unfoldable pub words_at : ℕ → List ℕ → ℕ → List ℕ
words_at zero block at = []
words_at (suc n) block at = number_at 8 block at ∷ words_at n block (at + 8)

-- the counted runs that are whole within the block: all of them, where it is not refused
unfoldable pub block_runs : List ℕ → ℕ
block_runs block = min (run_count block) ((length block - 4) / 16)

-- their words
unfoldable pub block_words : List ℕ → List ℕ
unfolding block_runs words_at
block_words block = words_at (2 * block_runs block) block 4

-- a block without the bytes that are ignored, those "after the last counted run": its count and its counted runs
unfoldable pub exact_block : List ℕ → List ℕ
exact_block block = take (4 + 16 * run_count block) block

-- ---- writing

unfoldable pub word_bytes : List ℕ → List ℕ
word_bytes [] = []
word_bytes (w ∷ ws) = to_le 8 w ++ word_bytes ws

-- the block of a run list: "exact lengths, 4 + 16 times runs per block"
unfoldable pub block_bytes : List ℕ → List ℕ
unfolding word_bytes
block_bytes ws = to_le 4 (length ws / 2) ++ word_bytes ws
