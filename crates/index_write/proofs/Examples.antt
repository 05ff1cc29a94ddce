-- Insertions into the index of document 01's program, computed.
use mathlib.Core.Path.{◌≡◌, refl}
use mathlib.Core.List.{[], ◌∷◌}
use Rattle.fields.specs.Refusal.{when, ◌then◌}
use Rattle.fields.specs.Bytes.{number_at, from_le, to_le}
use Rattle.fields.specs.Answers.{short}
use Rattle.fields.specs.Limits.{too_long, no_room, max_bytes}
use Rattle.run_list.specs.Runs.{run_fault, runs_fault, odd, own_fault}
use Rattle.run_list.specs.Blocks.{read_fault, block_fault, words_at, block_runs, block_words, word_bytes, block_bytes}
use Rattle.boundary.specs.Merge.{merge, combine}
use Rattle.index.specs.Index.{block_at, head_fault, entries_fault, entry_list, index_fault, entry_bytes, entries_bytes, index_bytes, entry, sample, sample_bytes}
use Rattle.index_write.specs.Calls.{inserted, insert_fault}

-- a known value gets the union; a new one an entry, even with no runs; the index is judged before the runs; room
insertions : (inserted 7 (7 ∷ 9 ∷ []) sample ≡ entry 3 (0 ∷ 4 ∷ 6 ∷ 9 ∷ []) ∷ entry 7 (2 ∷ 9 ∷ []) ∷ [])
    × (inserted 5 [] sample ≡ entry 3 (0 ∷ 4 ∷ 6 ∷ 9 ∷ []) ∷ entry 5 [] ∷ entry 7 (2 ∷ 7 ∷ []) ∷ [])
    × (inserted 9 (1 ∷ 2 ∷ []) [] ≡ entry 9 (1 ∷ 2 ∷ []) ∷ [])
    × (insert_fault (0 ∷ []) (5 ∷ 5 ∷ []) ≡ 2)
    × (insert_fault sample_bytes (5 ∷ 5 ∷ []) ≡ 3)
    × (no_room max_bytes 85 84 ≡ 10)
    × (no_room max_bytes 84 84 ≡ 0)
unfolding sample inserted combine merge insert_fault no_room short too_long own_fault odd runs_fault index_fault entries_fault head_fault entry_list block_at entry_bytes entries_bytes index_bytes read_fault block_fault run_fault words_at block_runs block_words word_bytes block_bytes number_at from_le to_le when ◌then◌
insertions = (refl, refl, refl, refl, refl, refl, refl)
