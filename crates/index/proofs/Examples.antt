-- The index of document 01's program, computed: read, looked up and written back; spare bytes cut; an entry with no runs kept, its value present; refusals
-- in reading order.
use mathlib.Core.Path.{◌≡◌, refl}
use mathlib.Core.Bool.{true, false}
use mathlib.Core.List.{List, [], ◌∷◌, ◌++◌}
use Prim.Native.Nat.{ℕ}
use lib.ListN.{length, take}
use Rattle.fields.specs.Refusal.{when, ◌then◌}
use Rattle.fields.specs.Bytes.{number_at, from_le, to_le}
use Rattle.fields.specs.Answers.{accepted}
use Rattle.fields.specs.Limits.{too_long}
use Rattle.run_list.specs.Runs.{run_fault}
use Rattle.run_list.specs.Blocks.{read_fault, block_fault, words_at, block_runs, block_words, exact_block, word_bytes, block_bytes}
use Rattle.index.specs.Index.{entry, block_at, head_fault, entries_fault, entry_list, index_fault, entries, all_runs, entry_bytes, entries_bytes, index_bytes, block_of, words_of, present, sample, sample_bytes}
use Rattle.index.specs.Exact.{exact_entries, exact}
use Rattle.index.specs.Search.{place_after, passed, is_known, place_of, size_of, found}
use Rattle.index.specs.Calls.{lookup, lookup_place}

-- an index with a spare byte in its block, and two after its last entry
spare : List ℕ
spare = to_le 4 1 ++ (to_le 8 9 ++ (to_le 4 21 ++ (block_bytes (1 ∷ 2 ∷ []) ++ (7 ∷ 7 ∷ 7 ∷ []))))

read_back : (length sample_bytes ≡ 84)
    × (index_fault sample_bytes ≡ 0)
    × (entries sample_bytes ≡ sample)
    × (all_runs sample ≡ 3)
    × (lookup sample_bytes 7 ≡ block_bytes (2 ∷ 7 ∷ []))
    × (lookup sample_bytes 5 ≡ [])
unfolding sample index_fault entries_fault head_fault entry_list entries all_runs block_at entry_bytes entries_bytes index_bytes block_of lookup accepted read_fault block_fault run_fault words_at block_runs block_words word_bytes block_bytes number_at from_le to_le when ◌then◌ too_long
read_back = (refl, refl, refl, refl, refl, refl)

-- the places of blocks: the first, the second, a missing one, one of a refused index
places : (lookup_place sample_bytes 3 ≡ 16)
    × (lookup_place sample_bytes 7 ≡ 64)
    × (lookup_place sample_bytes 5 ≡ 0)
    × (lookup_place (take 83 sample_bytes) 3 ≡ 0)
unfolding sample lookup_place place_of is_known passed place_after index_fault entries_fault head_fault block_at entry_bytes entries_bytes index_bytes accepted read_fault block_fault run_fault word_bytes block_bytes number_at from_le to_le when ◌then◌ too_long
places = (refl, refl, refl, refl)

-- the search in any bytes: a value found, one missing; the bytes end before its entry does, and before its head does; a spare byte is cut; fewer entries
-- than are counted
searches : (found sample_bytes 7 ≡ block_bytes (2 ∷ 7 ∷ []))
    × (found sample_bytes 5 ≡ [])
    × (found (take 83 sample_bytes) 7 ≡ take 19 (block_bytes (2 ∷ 7 ∷ [])))
    × (found (take 63 sample_bytes) 7 ≡ [])
    × (found spare 9 ≡ block_bytes (1 ∷ 2 ∷ []))
    × (found (to_le 4 9) 3 ≡ [])
unfolding sample spare found place_of size_of is_known passed place_after block_at entry_bytes entries_bytes index_bytes word_bytes block_bytes number_at from_le to_le
searches = (refl, refl, refl, refl, refl, refl)

spare-bytes : (index_fault spare ≡ 0) × (index_bytes (entries spare) ≡ to_le 4 1 ++ (to_le 8 9 ++ (to_le 4 20 ++ block_bytes (1 ∷ 2 ∷ []))))
unfolding spare index_fault entries_fault head_fault entry_list entries block_at entry_bytes entries_bytes index_bytes read_fault block_fault run_fault words_at block_runs block_words word_bytes block_bytes number_at from_le to_le when ◌then◌ too_long
spare-bytes = (refl, refl)

-- the same cut of the bytes themselves: a spare byte at the end of document 01's index; two in a block with no runs, before another entry
exact_bytes : (exact spare ≡ to_le 4 1 ++ (to_le 8 9 ++ (to_le 4 20 ++ block_bytes (1 ∷ 2 ∷ []))))
    × (exact sample_bytes ≡ sample_bytes)
    × (exact (sample_bytes ++ (7 ∷ [])) ≡ sample_bytes)
    × (exact (to_le 4 2 ++ (to_le 8 3 ++ (to_le 4 6 ++ (block_bytes [] ++ (7 ∷ 7 ∷ entry_bytes (entry 7 (2 ∷ 7 ∷ []))))))) ≡ index_bytes (entry 3 [] ∷ entry 7 (2 ∷ 7 ∷ []) ∷ []))
unfolding spare sample exact exact_entries exact_block block_at entry_bytes entries_bytes index_bytes word_bytes block_bytes number_at from_le to_le
exact_bytes = (refl, refl, refl, refl)

-- a value with no runs is present and has a block
values : (present (entry 3 [] ∷ []) 3 ≡ true)
    × (words_of (entry 3 [] ∷ []) 3 ≡ [])
    × (block_of (entry 3 [] ∷ []) 3 ≡ 0 ∷ 0 ∷ 0 ∷ 0 ∷ [])
    × (present (entry 3 [] ∷ []) 5 ≡ false)
    × (present sample 7 ≡ true)
    × (present sample 5 ≡ false)
unfolding sample present words_of block_of word_bytes block_bytes to_le
values = (refl, refl, refl, refl, refl, refl)

-- an entry with no runs; a value that repeats is 5, though its length would be cut short; a block cut short
others : (index_fault (index_bytes (record { value = 3; words = [] } ∷ [])) ≡ 0)
    × (entries (index_bytes (record { value = 3; words = [] } ∷ [])) ≡ record { value = 3; words = [] } ∷ [])
    × (index_fault (to_le 4 2 ++ (entry_bytes (record { value = 3; words = [] }) ++ to_le 8 3)) ≡ 5)
    × (index_fault (take 83 sample_bytes) ≡ 2)
    × (index_fault (0 ∷ 0 ∷ 0 ∷ []) ≡ 2)
unfolding sample index_fault entries_fault head_fault entry_list entries block_at entry_bytes entries_bytes index_bytes read_fault block_fault run_fault words_at block_runs block_words word_bytes block_bytes number_at from_le to_le when ◌then◌ too_long
others = (refl, refl, refl, refl, refl)
