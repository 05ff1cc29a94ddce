-- What the contracts of the merges' inner functions cite: a merge at two indices of its lists.
use Rattle.std.specs.Prelude.{◌≡◌, Bool, true, cond, ◌&&◌, List, [], ◌∷◌, ℕ, ◌+◌, ◌-◌, ◌^◌, ◌≤◌, ◌<◌, min, leb, length, get_or, Option, Some}
use Rattle.std.proofs.Math.Seq.{slice}
use Rattle.fields.specs.Counting.{bit}
use Rattle.boundary.specs.Values.{odd_at, alone, changes}
use Rattle.boundary.specs.Stores.{Storer, store_all, Puts, rest}
use Rattle.boundary.specs.declared.Cursor.{Cursor}
use Rattle.boundary.specs.declared.Sweep.{Sweep}

-- the words from an index up to another lead a word that may be missing
pub record Below (ws : List ℕ) (from : ℕ) (f : Option ℕ) (to : ℕ) : Type 0 where
  pub low : from ≤ to
  pub high : to ≤ length ws
  pub each : (m : ℕ) → from ≤ m → m < to → alone (Some (get_or ws m 0)) f ≡ true

-- four words come before y
pub record FourBelow (ws : List ℕ) (i y : ℕ) : Type 0 where
  pub first : get_or ws i 0 < y
  pub second : get_or ws (i + 1) 0 < y
  pub third : get_or ws (i + 2) 0 < y
  pub fourth : get_or ws (i + 3) 0 < y

-- n words of one list are those of another
pub record Same (a b : List ℕ) (i j n : ℕ) : Type 0 where
  pub left : i + n ≤ length a
  pub right : j + n ≤ length b
  pub each : (m : ℕ) → m < n → get_or a (i + m) 0 ≡ get_or b (j + m) 0

-- four words of one list are those of another
pub record FourSame (a b : List ℕ) (i j : ℕ) : Type 0 where
  pub first : get_or a i 0 ≡ get_or b j 0
  pub second : get_or a (i + 1) 0 ≡ get_or b (j + 1) 0
  pub third : get_or a (i + 2) 0 ≡ get_or b (j + 2) 0
  pub fourth : get_or a (i + 3) 0 ≡ get_or b (j + 3) 0

-- a word is at an index, and the number of the words written is small
pub record Ahead (ws : List ℕ) (from k : ℕ) : Type 0 where
  pub some : from < length ws
  pub place : k < 2 ^ 62

-- a merge between two boundaries, with one left, and the number of the words written is small
pub record Between (op : Bool → Bool → Bool) (a b : List ℕ) (t : Cursor) : Type 0 where
  pub some : t.i + t.j < length a + length b
  pub left : t.i ≤ length a
  pub right : t.j ≤ length b
  pub place : t.k < 2 ^ 62
  pub state : t.was ≡ op (odd_at t.i) (odd_at t.j)

-- a merge goes on by a stretch of the left list, before a word of the right one that may be missing
pub record PassedLeft (store : Storer) (op : Bool → Bool → Bool) (a : List ℕ) (g : Option ℕ) (t : Cursor) (before : List ℕ) (r : Cursor) (out : List ℕ) : Type 0 where
  pub stay : r.j ≡ t.j
  pub each : Below a (t.i + 1) g r.i
  pub put : Puts store t.was (op (odd_at (t.i + 1)) (odd_at t.j)) (slice t.i r.i a) t.k before r.k out
  pub state : r.was ≡ op (odd_at r.i) (odd_at r.j)
  pub same : length out ≡ length before

-- by a stretch of the right one
pub record PassedRight (store : Storer) (op : Bool → Bool → Bool) (b : List ℕ) (f : Option ℕ) (t : Cursor) (before : List ℕ) (r : Cursor) (out : List ℕ) : Type 0 where
  pub stay : r.i ≡ t.i
  pub each : Below b (t.j + 1) f r.j
  pub put : Puts store t.was (op (odd_at t.i) (odd_at (t.j + 1))) (slice t.j r.j b) t.k before r.k out
  pub state : r.was ≡ op (odd_at r.i) (odd_at r.j)
  pub same : length out ≡ length before

-- by a boundary of both and the words after it that they share
pub record PassedBoth (store : Storer) (op : Bool → Bool → Bool) (a b : List ℕ) (t : Cursor) (before : List ℕ) (r : Cursor) (out : List ℕ) : Type 0 where
  pub low : t.i < r.i
  pub high : r.i ≤ length a
  pub level : t.j + (r.i - t.i) ≡ r.j
  pub each : Same a b (t.i + 1) (t.j + 1) (r.i - t.i - 1)
  pub put : Puts store t.was (op (odd_at (t.i + 1)) (odd_at (t.j + 1))) (slice t.i r.i a) t.k before r.k out
  pub state : r.was ≡ op (odd_at r.i) (odd_at r.j)
  pub same : length out ≡ length before

-- a merge goes on from t to r: what is to come, stored after what is stored, stays the same
pub record Moved (store : Storer) (op : Bool → Bool → Bool) (a b : List ℕ) (t : Cursor) (before : List ℕ) (r : Cursor) (out : List ℕ) : Type 0 where
  pub further : t.i + t.j < r.i + r.j
  pub left : r.i ≤ length a
  pub right : r.j ≤ length b
  pub state : r.was ≡ op (odd_at r.i) (odd_at r.j)
  pub same : length out ≡ length before
  pub number : r.k + length (rest op a b r.i r.j) ≡ t.k + length (rest op a b t.i t.j)
  pub words : store_all store out r.k (rest op a b r.i r.j) ≡ store_all store before t.k (rest op a b t.i t.j)

-- ---- boundaries without branches

-- the words of s are those of the lists at its indices and after them, and the last one written is in the output: stored again in its place it changes nothing
pub record Holds (store : Storer) (a b : List ℕ) (s : Sweep) (out : List ℕ) : Type 0 where
  pub x : s.x ≡ get_or a s.at.i 0
  pub y : s.y ≡ get_or b s.at.j 0
  pub x1 : s.x1 ≡ get_or a (s.at.i + 1) 0
  pub y1 : s.y1 ≡ get_or b (s.at.j + 1) 0
  pub last : store out (s.at.k - 1) s.last ≡ out

-- an output of len words has room for a word more
pub record RoomForOne (s : Sweep) (len : ℕ) : Type 0 where
  pub room : s.at.k < len
  pub small : s.at.k < 2 ^ 63

-- the lists have a word more than s holds
pub record MoreWords (m n : ℕ) (s : Sweep) : Type 0 where
  pub left : s.at.i + 2 < m
  pub right : s.at.j + 2 < n

-- a boundary further: at t, with the words u and v after those at its indices
pub record Settled (s : Sweep) (t : Cursor) (u v : ℕ) (r : Sweep) : Type 0 where
  pub place : r.at ≡ t
  pub last : r.last ≡ cond (changes s.at.was t.was) (min s.x s.y) s.last
  pub x : r.x ≡ cond (leb s.x s.y) s.x1 s.x
  pub y : r.y ≡ cond (leb s.y s.x) s.y1 s.y
  pub x1 : r.x1 ≡ u
  pub y1 : r.y1 ≡ v

-- a boundary further in two lists
pub record Swept (store : Storer) (op : Bool → Bool → Bool) (a b : List ℕ) (s : Sweep) (before : List ℕ) (r : Sweep) (out : List ℕ) : Type 0 where
  pub left : r.at.i ≡ s.at.i + bit (leb s.x s.y)
  pub right : r.at.j ≡ s.at.j + bit (leb s.y s.x)
  pub state : r.at.was ≡ op (odd_at r.at.i) (odd_at r.at.j)
  pub put : Puts store s.at.was r.at.was (min s.x s.y ∷ []) s.at.k before r.at.k out
  pub holds : Holds store a b r out

-- s is t with the words
pub record Held (store : Storer) (a b : List ℕ) (t : Cursor) (out : List ℕ) (s : Sweep) : Type 0 where
  pub place : s.at ≡ t
  pub holds : Holds store a b s out

-- lists of m and n words have words for sixteen boundaries and the two after them, and there is room
pub record SixteenLeft (m n : ℕ) (t : Cursor) (len : ℕ) : Type 0 where
  pub left : t.i + 17 < m
  pub right : t.j + 17 < n
  pub room : t.k + 16 ≤ len

-- that as a truth value
unfoldable pub sixteen_left : ℕ → ℕ → Cursor → ℕ → Bool
sixteen_left m n t len = leb (t.i + 18) m && (leb (t.j + 18) n && leb (t.k + 16) len)
