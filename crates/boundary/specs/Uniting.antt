-- What the contracts of the union of two blocks cite.
use Rattle.std.specs.Prelude.{◌≡◌, List, ℕ, ◌+◌, ◌≤◌, ◌<◌, length, get_or}
use Rattle.boundary.specs.Merge.{either}
use Rattle.boundary.specs.Values.{odd_at}
use Rattle.boundary.specs.Stores.{set_bytes, rest}
use Rattle.boundary.specs.Walk.{Moved}
use Rattle.boundary.specs.declared.Cursor.{Cursor}
use Rattle.boundary.specs.declared.Sweep.{Sweep}

-- a union between two boundaries, with a word left in each list; its words are at most those of both lists
pub record BothLeft (a b : List ℕ) (t : Cursor) : Type 0 where
  pub left : t.i < length a
  pub right : t.j < length b
  pub whole : t.k + length (rest either a b t.i t.j) ≤ length a + length b
  pub state : t.was ≡ either (odd_at t.i) (odd_at t.j)

-- each list has three words from the indices on
pub record ThreeLeft (a b : List ℕ) (t : Cursor) : Type 0 where
  pub left : t.i + 2 < length a
  pub right : t.j + 2 < length b

-- ---- with the next two words of each list held

-- the words of s are those of the lists at its indices and after them
pub record HoldsNext (a b : List ℕ) (s : Sweep) : Type 0 where
  pub x : s.x ≡ get_or a s.at.i 0
  pub y : s.y ≡ get_or b s.at.j 0
  pub x1 : s.x1 ≡ get_or a (s.at.i + 1) 0
  pub y1 : s.y1 ≡ get_or b (s.at.j + 1) 0

-- a boundary further
pub record HeldOn (a b : List ℕ) (s : Sweep) (before : List ℕ) (r : Sweep) (out : List ℕ) : Type 0 where
  pub low-left : s.at.i ≤ r.at.i
  pub low-right : s.at.j ≤ r.at.j
  pub moved : Moved set_bytes either a b s.at before r.at out
  pub holds : HoldsNext a b r
