-- Edges of `merge`: runs of the two that touch become one, an entry without runs stays one; the faults of the first before those of the second.
use mathlib.Core.Path.{◌≡◌, refl}
use mathlib.Core.List.{List, [], ◌∷◌}
use Prim.Native.Nat.{ℕ}
use Rattle.fields.specs.Refusal.{when, ◌then◌}
use Rattle.fields.specs.Bytes.{number_at, from_le, to_le}
use Rattle.fields.specs.Limits.{too_long}
use Rattle.run_list.specs.Blocks.{read_fault, block_fault, word_bytes, block_bytes}
use Rattle.boundary.specs.Merge.{merge, combine}
use Rattle.index.specs.Index.{entry, head_fault, block_at, entries_fault, entry_bytes, entries_bytes, index_bytes, sample}
use Rattle.index_merge.specs.Calls.{merged, merge_fault}

-- the index of document 01's program with value 5 with run 2 to 4 and value 7 with run 7 to 8; with values 3 and 4 without runs
entries-example : (merged sample (entry 5 (2 ∷ 4 ∷ []) ∷ entry 7 (7 ∷ 8 ∷ []) ∷ []) ≡ entry 3 (0 ∷ 4 ∷ 6 ∷ 9 ∷ []) ∷ entry 5 (2 ∷ 4 ∷ []) ∷ entry 7 (2 ∷ 8 ∷ []) ∷ [])
    × (merged (entry 3 [] ∷ entry 4 [] ∷ []) sample ≡ entry 3 (0 ∷ 4 ∷ 6 ∷ 9 ∷ []) ∷ entry 4 [] ∷ entry 7 (2 ∷ 7 ∷ []) ∷ [])
unfolding merged combine merge sample
entries-example = (refl, refl)

-- an index whose values fall, and one that is cut short
abbrev falling : List ℕ
falling = index_bytes (entry 7 [] ∷ entry 3 [] ∷ [])

faults-example : (merge_fault falling [] ≡ 5) × (merge_fault [] falling ≡ 2) × (merge_fault (index_bytes []) falling ≡ 5) × (merge_fault falling (index_bytes []) ≡ 5)
unfolding merge_fault too_long when ◌then◌ number_at from_le to_le read_fault block_fault word_bytes block_bytes head_fault block_at entries_fault entry_bytes entries_bytes index_bytes
faults-example = (refl, refl, refl, refl)
