-- Words stored one after another, in any way to store a word; and what a merge has still to give at two indices of its lists.
use Rattle.std.specs.Prelude.{◌≡◌, Bool, true, false, List, [], ◌∷◌, ℕ, suc, ◌+◌, ◌*◌, ◌^◌, ◌≤◌, ◌<◌, length, drop}
use Rattle.fields.specs.Bytes.{to_le, stored}
use Rattle.boundary.specs.Merge.{merge}
use Rattle.boundary.specs.Values.{odd_at}

-- each word's eight bytes stored one after another from a place on, each word only where all of its bytes fit
unfoldable pub store_words : List ℕ → ℕ → List ℕ → List ℕ
store_words out at [] = out
store_words out at (w ∷ ws) = store_words (stored out at (to_le 8 w)) (at + 8) ws

-- the words ws are counted, and stored as those of a block
pub record StoredWords (ws before : List ℕ) (n : ℕ) (out : List ℕ) : Type 0 where
  pub number : n ≡ length ws
  pub written : out ≡ store_words before 4 ws

-- ways to store a word: by the output, the index of the word among those stored, and the word
abbrev pub Storer : Type 0
Storer = List ℕ → ℕ → ℕ → List ℕ

-- as one of a block's words
unfoldable pub set_bytes : Storer
set_bytes out k x = stored out (4 + 8 * k) (to_le 8 x)

-- a way to store a word in an output that has room for so many words by its length: nothing is stored past them, the length stays, and of two words stored at
-- one index the second is there
pub record Storing (store : Storer) (room : ℕ → ℕ) : Type 0 where
  pub past : (out : List ℕ) (k x : ℕ) → room (length out) ≤ k → store out k x ≡ out
  pub same : (out : List ℕ) (k x : ℕ) → length (store out k x) ≡ length out
  pub again : (out : List ℕ) (k x y : ℕ) → store (store out k x) k y ≡ store out k y

-- words stored from index k on
abbrev pub store_all : Storer → List ℕ → ℕ → List ℕ → List ℕ
store_all store out k [] = out
store_all store out k (w ∷ ws) = store_all store (store out k w) (suc k) ws

-- the words ws are counted, and stored from the first index on
pub record StoredBy (store : Storer) (ws before : List ℕ) (n : ℕ) (out : List ℕ) : Type 0 where
  pub number : n ≡ length ws
  pub written : out ≡ store_all store before 0 ws

-- boundaries at each of which the states change as at the first, from u to v: all of them where these differ, else none
abbrev pub emits : Bool → Bool → List ℕ → List ℕ
emits true true ws = []
emits true false ws = ws
emits false true ws = ws
emits false false ws = []

-- such boundaries are stored from index k on; k' is the next index
pub record Puts (store : Storer) (u v : Bool) (ws : List ℕ) (k : ℕ) (before : List ℕ) (k' : ℕ) (out : List ℕ) : Type 0 where
  pub next : k' ≡ k + length (emits u v ws)
  pub written : out ≡ store_all store before k (emits u v ws)
  pub same : length out ≡ length before

-- the words from one index up to another are there, and the numbers are small
pub record Part (ws : List ℕ) (from to k : ℕ) : Type 0 where
  pub some : from ≤ to
  pub all : to ≤ length ws
  pub few : length ws < 2 ^ 62
  pub place : k < 2 ^ 62

-- what a merge has still to give at two indices of its lists
abbrev pub rest : (Bool → Bool → Bool) → List ℕ → List ℕ → ℕ → ℕ → List ℕ
rest op a b i j = merge op (odd_at i) (odd_at j) (drop i a) (drop j b)
