-- Where the entry of a value is, or would be inserted, in any bytes. Entries are passed by their heads (value and block length, 12 bytes), up to the first
-- value that is not below the one sought; the search also ends where the bytes end before a head does.
use Rattle.std.specs.Prelude.{◌≡◌, Bool, cond, ◌&&◌, List, [], ℕ, zero, suc, ◌+◌, ◌*◌, ◌^◌, ◌≤◌, ◌<◌, min, leb, ltb, eqb, length, take, drop}
use Rattle.fields.specs.Bytes.{number_at}
use Rattle.index.specs.Index.{value_at, length_at, next_at, entry_count}
use Rattle.index.specs.declared.Part.{Part}
use Rattle.index.specs.declared.Place.{Place}

-- the place after k entries from a place on
unfoldable pub place_after : ℕ → List ℕ → ℕ → ℕ
place_after zero s at = at
place_after (suc k) s at = place_after k s (next_at s at)

-- how many of n entries from a place on the search for v passes
unfoldable pub passed : ℕ → List ℕ → ℕ → ℕ → ℕ
passed zero s at v = 0
passed (suc n) s at v = cond (leb (at + 12) (length s)) (cond (leb v (value_at s at)) 0 (suc (passed n s (next_at s at) v))) 0

abbrev pub lesser : List ℕ → ℕ → ℕ
lesser s v = passed (entry_count s) s 4 v

-- the insertion point of v: where its entry is, if it has one
abbrev pub point_of : List ℕ → ℕ → ℕ
point_of s v = place_after (lesser s v) s 4

-- one of the counted entries is there, and has the value v
unfoldable pub is_known : List ℕ → ℕ → Bool
is_known s v = ltb (lesser s v) (entry_count s) && (leb (point_of s v + 12) (length s) && eqb v (value_at s (point_of s v)))

-- what `seek` gives. Its place is not far past the bytes
pub record PlaceOf (s : List ℕ) (v : ℕ) (r : Place) : Type 0 where
  pub below : r.below ≡ lesser s v
  pub place : r.at ≡ point_of s v
  pub known : r.known ≡ is_known s v
  pub small : r.at < 2 ^ 63 + 2 ^ 33

-- the place of the block of v, after its length field, and how many of its bytes count: those of its counted runs, within its length. 0 where v has no entry
unfoldable pub place_of : List ℕ → ℕ → ℕ
place_of s v = cond (is_known s v) (point_of s v + 12) 0

unfoldable pub size_of : List ℕ → ℕ → ℕ
size_of s v = cond (is_known s v) (min (4 + 16 * number_at 4 s (point_of s v + 12)) (length_at s (point_of s v))) 0

-- `find`: those bytes, as far as there are any. On an index that is not refused they are the exact block of the value (`found-is` in proofs/Search.antt)
unfoldable pub found : List ℕ → ℕ → List ℕ
unfolding place_of size_of
found s v = take (size_of s v) (drop (place_of s v) s)

-- the block at a place in the bytes, cut to its counted runs and to the bytes that there are; none at 0. At the place of a value's block in an index that is
-- not refused it is what `find` gives (`placed-found` in proofs/PlacedBlocks.antt)
unfoldable pub block_from : List ℕ → ℕ → List ℕ
block_from s zero = []
block_from s (suc p) = take (4 + 16 * number_at 4 s (suc p)) (drop (suc p) s)

pub record FoundAt (s : List ℕ) (v : ℕ) (r : Part) : Type 0 where
  pub place : r.at ≡ place_of s v
  pub size : r.len ≡ length (found s v)
  pub within : r.at + r.len ≤ length s
