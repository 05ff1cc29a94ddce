-- What the contracts of private functions cite, here and in crates index_write and index_merge. No open contract needs it.
use Rattle.std.specs.Prelude.{◌≡◌, List, ℕ, ◌≤◌, length}
use Rattle.fields.specs.Limits.{max_bytes}
use Rattle.index.specs.Index.{entries_fault}

-- ---- entries in an index

-- n entries from a place on are not refused, the first value at least lo
pub record EntriesFit (s : List ℕ) (at n : ℕ) : Type 0 where
  pub short : length s ≤ max_bytes
  pub place : at ≤ length s
  pub lo : ℕ
  pub right : entries_fault n s at lo ≡ 0
