-- What writing keeps of an index that was read (document 01, "Block and index bytes"): "the input with its ignored bytes cut and lengths made exact". On the
-- bytes themselves, with no entries or words between.
use Rattle.std.specs.Prelude.{◌≡◌, List, [], ◌++◌, ℕ, zero, suc, ◌+◌, ◌*◌, length, take, drop}
use Rattle.fields.specs.Bytes.{to_le}
use Rattle.run_list.specs.Blocks.{run_count, exact_block}
use Rattle.index.specs.Index.{length_at, block_at, next_at, entry_count}

-- n entries from a place on: the bytes of the value as they are, the length made exact, the block without its ignored bytes
unfoldable pub exact_entries : ℕ → List ℕ → ℕ → List ℕ
exact_entries zero s at = []
exact_entries (suc n) s at =
    take 8 (drop at s) ++ (to_le 4 (length (exact_block (block_at s at))) ++ (exact_block (block_at s at) ++ exact_entries n s (next_at s at)))

-- "the input with its ignored bytes cut and lengths made exact"
unfoldable pub exact : List ℕ → List ℕ
unfolding exact_entries
exact s = take 4 s ++ exact_entries (entry_count s) s 4

-- nothing is ignored in n entries from a place on: each block is as long as its counted runs need, and the bytes end with the last entry
abbrev pub ExactFrom : ℕ → List ℕ → ℕ → Type 0
ExactFrom zero s at = at ≡ length s
ExactFrom (suc n) s at = (length_at s at ≡ 4 + 16 * run_count (block_at s at)) × ExactFrom n s (next_at s at)

-- an index with no bytes that reading ignores
abbrev pub NothingIgnored : List ℕ → Type 0
NothingIgnored s = ExactFrom (entry_count s) s 4
