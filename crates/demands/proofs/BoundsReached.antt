-- Inputs whose results are as long as their bounds: none of these bounds could be lower.
use mathlib.Core.Path.{◌≡◌, refl}
use mathlib.Core.List.{[], ◌∷◌}
use lib.ListN.{length}
use Rattle.fields.specs.Bytes.{from_le, number_at, to_le}
use Rattle.packed.specs.Bits.{bit_at, counts}
use Rattle.run_list.specs.Blocks.{words_at, block_runs, block_words, word_bytes, block_bytes}
use Rattle.boundary.specs.Merge.{merge, combine, either, left_only}
use Rattle.packed_build.specs.Packed.{list_of}
use Rattle.bit_rank.specs.BitRanks.{bit_directory}
use Rattle.presence.specs.Present.{presence_directory}
use Rattle.index.specs.Index.{entry, entry_bytes, entries_bytes, index_bytes, sample, sample_bytes}
use Rattle.index_write.specs.Calls.{inserted}
use Rattle.index_merge.specs.Calls.{merged}
use Rattle.demands.specs.Bounds.{combined_bound, block_decode_bound, block_encode_bound, from_packed_bits_bound, index_encode_bound, index_insert_bound, index_merge_bound, bit_directory_bound, presence_directory_bound}

-- a left list's length is not enough for a difference; a union of disjoint lists; every other bit of a byte; a block of one run,
-- written and read; the index of document 01's program, written, with a new value, and merged with an index of another value; directories
pub bounds-reached : (length (combine left_only (0 ∷ 10 ∷ []) (1 ∷ 2 ∷ 3 ∷ 4 ∷ 5 ∷ 6 ∷ [])) ≡ combined_bound 2 6)
    × (combined_bound 2 6 ≡ 8)
    × (length (combine either (0 ∷ 1 ∷ []) (2 ∷ 3 ∷ 5 ∷ 9 ∷ [])) ≡ combined_bound 2 4)
    × (length (list_of (0x55 ∷ [])) ≡ from_packed_bits_bound 1)
    × (length (block_bytes (5 ∷ 9 ∷ [])) ≡ block_encode_bound 2)
    × (block_encode_bound 2 ≡ 20)
    × (length (block_words (block_bytes (5 ∷ 9 ∷ []))) ≡ block_decode_bound 20)
    × (block_decode_bound 20 ≡ 2)
    × (length (index_bytes sample) ≡ index_encode_bound (length sample_bytes))
    × (length (index_bytes (inserted 5 (2 ∷ 4 ∷ []) sample)) ≡ index_insert_bound (length sample_bytes) 2)
    × (length (index_bytes (merged sample (entry 5 (2 ∷ 4 ∷ []) ∷ []))) ≡ index_merge_bound (length sample_bytes) (length (index_bytes (entry 5 (2 ∷ 4 ∷ []) ∷ []))))
    × (length (bit_directory 512 (0x55 ∷ []) 8) ≡ bit_directory_bound 1 99)
    × (length (presence_directory (0x55 ∷ [])) ≡ presence_directory_bound 1)
unfolding combine merge list_of bit_at counts bit_directory presence_directory inserted merged sample entry_bytes entries_bytes index_bytes words_at block_runs block_words word_bytes block_bytes number_at from_le to_le
bounds-reached = (refl, refl, refl, refl, refl, refl, refl, refl, refl, refl, refl, refl, refl)
