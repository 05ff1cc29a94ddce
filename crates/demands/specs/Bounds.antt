-- For each call that writes, a length of the output that is always enough: the functions `.._bound` of include/mudcanvas.h and of the Rust package. A length
-- above its limit is refused for that, whatever the room, so each is cut to its limit. That they are enough is proved in proofs/BoundLaws.antt.
use Rattle.std.specs.Prelude.{◌≡◌, refl, ℕ, ◌+◌, ◌-◌, ◌*◌, ◌/◌, ◌^◌, min}
use Rattle.fields.specs.Limits.{max_items, max_words, max_bytes, max_bits}

-- ---- run lists and blocks

-- `bitmap::union`, `intersect`, `difference`, words: each word of the two lists may be one of the result
abbrev pub combined_bound : ℕ → ℕ → ℕ
combined_bound left right = min max_words (left + right)

-- `bitmap::decode`, words for a block of n bytes: two for each run that is whole within it
abbrev pub block_decode_bound : ℕ → ℕ
block_decode_bound n = 2 * ((min n max_bytes - 4) / 16)

-- `bitmap::encode`, bytes for a list of n words
abbrev pub block_encode_bound : ℕ → ℕ
block_encode_bound n = 4 + 8 * min n max_words

-- `bitmap_build::from_rows`, words for n rows
abbrev pub from_rows_bound : ℕ → ℕ
from_rows_bound n = 2 * min n max_items

-- `bitmap_build::from_ranges`, words for n words, two for each range
abbrev pub from_ranges_bound : ℕ → ℕ
from_ranges_bound n = min n max_words

-- `bitmap_build::from_packed_bits`, words for n bytes: one for each bit
abbrev pub from_packed_bits_bound : ℕ → ℕ
from_packed_bits_bound n = min max_words (8 * n)

-- ---- indexes

-- `bitmap_index::encode`, bytes for an index of n bytes
abbrev pub index_encode_bound : ℕ → ℕ
index_encode_bound n = min n max_bytes

-- `bitmap_index::insert`, bytes for an index of that many bytes and runs of that many words: 16 bytes for a new entry, 8 for each word
abbrev pub index_insert_bound : ℕ → ℕ → ℕ
index_insert_bound index runs = min max_bytes (index + 16 + 8 * runs)

-- `bitmap_index::merge`, bytes for indexes of that many bytes: both have an entry count, the result has one
abbrev pub index_merge_bound : ℕ → ℕ → ℕ
index_merge_bound first second = min max_bytes (first + second - 4)

-- `bitmap_index::filter`, `intersect_values`, words for the output, and for the scratch: runs as `decode` of the index gives them
abbrev pub filter_bound : ℕ → ℕ
filter_bound runs = 2 * runs

-- ---- ranks and presence

-- `rank_select::runs::from_runs`, words for a list of n words: one for each run, and the total
abbrev pub run_directory_bound : ℕ → ℕ
run_directory_bound n = min n max_words / 2 + 1

-- `rank_select::runs::rank`, `select`, `rank_and_contains`, `rank_select::bits::rank`, `presence::position`: one word for each of n positions
abbrev pub positions_bound : ℕ → ℕ
positions_bound n = n

-- `rank_select::bits::new`, words for that many bytes, and len
abbrev pub bit_directory_bound : ℕ → ℕ → ℕ
bit_directory_bound bytes len = min len (8 * min bytes max_bits) / 512 + 1

-- `rank_select::bits::count_range`, words for n words: one for each pair
abbrev pub pairs_bound : ℕ → ℕ
pairs_bound n = n / 2

-- `presence::new`, entries for n bytes
abbrev pub presence_directory_bound : ℕ → ℕ
presence_directory_bound n = (min n max_bits + 7) / 8

-- lengths past a limit are cut
examples : (combined_bound max_words 2 ≡ max_words)
    × (block_decode_bound (2 ^ 64) ≡ max_words)
    × (block_encode_bound (2 ^ 64) ≡ 4 + 8 * max_words)
    × (from_rows_bound (2 ^ 64) ≡ max_words)
    × (from_ranges_bound (2 ^ 64) ≡ max_words)
    × (from_packed_bits_bound max_bits ≡ max_words)
    × (index_encode_bound (2 ^ 64) ≡ max_bytes)
    × (index_insert_bound max_bytes 0 ≡ max_bytes)
    × (index_merge_bound max_bytes 8 ≡ max_bytes)
    × (run_directory_bound (2 ^ 64) ≡ max_items + 1)
    × (bit_directory_bound (2 ^ 64) (2 ^ 64) ≡ 8388608)
    × (presence_directory_bound (2 ^ 64) ≡ 67108864)
examples = (refl, refl, refl, refl, refl, refl, refl, refl, refl, refl, refl, refl)
