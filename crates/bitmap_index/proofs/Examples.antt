-- Filters over the index of document 01's program, computed.
use mathlib.Core.Path.{◌≡◌, refl}
use mathlib.Core.List.{[], ◌∷◌}
use lib.ListN.{replicate}
use Rattle.fields.specs.Refusal.{when, ◌then◌}
use Rattle.fields.specs.Bytes.{number_at, from_le, to_le}
use Rattle.fields.specs.Answers.{accepted, padded, over, after}
use Rattle.fields.specs.Limits.{too_long}
use Rattle.run_list.specs.Runs.{run_fault, odd}
use Rattle.boundary.specs.Merge.{merge, combine}
use Rattle.run_list.specs.Blocks.{read_fault, block_fault, words_at, block_runs, block_words, word_bytes, block_bytes}
use Rattle.index.specs.Index.{entry, block_at, head_fault, entries_fault, entry_list, entries, present, all_runs, entry_bytes, entries_bytes, index_bytes, words_of, sample, sample_bytes}
use Rattle.bitmap_index.specs.Filter.{step, keep_from, keep, named, kinds_fault, missing_fault, filter_fault, need, ands, take_then_ands, values_fault}

-- filters over the sample: no steps; a missing value; take, then and, or, without; an and before any take; a step repeated; values to be intersected
filters : (keep sample [] ≡ [])
    × (keep sample (1 ∷ 5 ∷ []) ≡ [])
    × (keep sample (1 ∷ 3 ∷ 2 ∷ 7 ∷ []) ≡ 2 ∷ 4 ∷ 6 ∷ 7 ∷ [])
    × (keep sample (1 ∷ 3 ∷ 3 ∷ 7 ∷ []) ≡ 0 ∷ 9 ∷ [])
    × (keep sample (1 ∷ 3 ∷ 4 ∷ 7 ∷ []) ≡ 0 ∷ 2 ∷ 7 ∷ 9 ∷ [])
    × (keep sample (2 ∷ 3 ∷ []) ≡ [])
    × (keep sample (3 ∷ 7 ∷ 3 ∷ 7 ∷ []) ≡ 2 ∷ 7 ∷ [])
    × (keep sample (take_then_ands (3 ∷ 7 ∷ 5 ∷ [])) ≡ [])
    × (take_then_ands (3 ∷ 7 ∷ []) ≡ 1 ∷ 3 ∷ 2 ∷ 7 ∷ [])
unfolding sample keep keep_from step take_then_ands ands words_of combine merge
filters = (refl, refl, refl, refl, refl, refl, refl, refl, refl)

-- the index's faults before the steps', 6 before 8 before 11, which any step can have, and none where an entry has no runs; the need; the output and the scratch
-- of an accepted call, of eight words each
filter-edges : (filter_fault (0 ∷ []) (9 ∷ []) ≡ 2)
    × (filter_fault sample_bytes (9 ∷ 3 ∷ 1 ∷ []) ≡ 6)
    × (filter_fault sample_bytes (1 ∷ 3 ∷ 0 ∷ 3 ∷ []) ≡ 8)
    × (filter_fault sample_bytes (1 ∷ 3 ∷ 5 ∷ 3 ∷ []) ≡ 8)
    × (filter_fault sample_bytes [] ≡ 0)
    × (filter_fault sample_bytes (1 ∷ 5 ∷ 3 ∷ []) ≡ 6)
    × (filter_fault sample_bytes (1 ∷ 5 ∷ 5 ∷ 3 ∷ []) ≡ 8)
    × (filter_fault sample_bytes (1 ∷ 3 ∷ 4 ∷ 5 ∷ []) ≡ 11)
    × (filter_fault sample_bytes (1 ∷ 3 ∷ 4 ∷ 7 ∷ []) ≡ 0)
    × (filter_fault (index_bytes (entry 5 [] ∷ [])) (1 ∷ 5 ∷ []) ≡ 0)
    × (values_fault sample_bytes (3 ∷ 3 ∷ 3 ∷ []) ≡ 0)
    × (need sample ≡ 6)
    × (after 0 (keep sample (1 ∷ 3 ∷ 4 ∷ 7 ∷ [])) (need sample) (replicate 8 5) ≡ 0 ∷ 2 ∷ 7 ∷ 9 ∷ 0 ∷ 0 ∷ 5 ∷ 5 ∷ [])
    × (after 0 [] (need sample) (replicate 8 5) ≡ 0 ∷ 0 ∷ 0 ∷ 0 ∷ 0 ∷ 0 ∷ 5 ∷ 5 ∷ [])
unfolding sample filter_fault too_long kinds_fault odd missing_fault named present entries values_fault need all_runs after accepted padded over keep keep_from step words_of combine merge entries_fault head_fault entry_list block_at entry_bytes entries_bytes index_bytes read_fault block_fault run_fault words_at block_runs block_words word_bytes block_bytes number_at from_le to_le when ◌then◌
filter-edges = (refl, refl, refl, refl, refl, refl, refl, refl, refl, refl, refl, refl, refl, refl)
