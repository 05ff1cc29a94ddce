-- Reading an index as document 01 says it: a sequence of reads and tests, which the first fault ends. `reading-is` (proofs/ReadingLaws.antt) proves that
-- the definitions by places, which the contracts cite, give the same.
use Rattle.std.specs.Prelude.{Bool, true, false, List, [], ◌∷◌, ℕ, zero, suc, leb, ltb, length, take, drop}
use Rattle.fields.specs.Bytes.{from_le}
use Rattle.index.specs.Index.{Entry, entry}

-- a refusal, or what was read
pub data Reading (A : Type 0) : Type 0 where
  refused : ℕ → Reading A
  gives : A → Reading A

infixl 20 ◌>>=◌
infixl 20 ◌>>◌
abbrev pub ◌>>=◌ : {A B : Type 0} → Reading A → (A → Reading B) → Reading B
refused f >>= k = refused f
gives a >>= k = k a

abbrev pub ◌>>◌ : {A B : Type 0} → Reading A → Reading B → Reading B
refused f >> m = refused f
gives a >> m = m

-- the refusal f unless the test passes
abbrev pub unless : Bool → ℕ → Reading (Unit {0})
unless true f = gives tt
unless false f = refused f

-- the first n bytes, "2 bytes end inside a field or block"; and their number
unfoldable pub part : ℕ → List ℕ → Reading (List ℕ)
part n bs = do
  unless (leb n (length bs)) 2
  gives (take n bs)

unfoldable pub field : ℕ → List ℕ → Reading ℕ
field n bs = do
  b ← part n bs
  gives (from_le b)

-- "Per run: start read, end read, empty, order"; the first start is at least lo
unfoldable pub read_runs : ℕ → ℕ → List ℕ → Reading (List ℕ)
read_runs zero lo bs = gives []
read_runs (suc n) lo bs = do
  s ← field 8 bs
  e ← field 8 (drop 8 bs)
  unless (ltb s e) 3
  unless (leb lo s) 4
  ws ← read_runs n (suc e) (drop 16 bs)
  gives (s ∷ e ∷ ws)

unfoldable pub read_block : List ℕ → Reading (List ℕ)
read_block bs = do
  n ← field 4 bs
  read_runs n 0 (drop 4 bs)

-- "Per entry: value read, value order, length read, block taken, block read"; the first value is at least lo
unfoldable pub read_entries : ℕ → ℕ → List ℕ → Reading (List Entry)
read_entries zero lo bs = gives []
read_entries (suc n) lo bs = do
  v ← field 8 bs
  unless (leb lo v) 5
  len ← field 4 (drop 8 bs)
  block ← part len (drop 12 bs)
  ws ← read_block block
  es ← read_entries n (suc v) (drop len (drop 12 bs))
  gives (entry v ws ∷ es)

-- an index, but for the limit of its length
unfoldable pub read_index : List ℕ → Reading (List Entry)
read_index bs = do
  n ← field 4 bs
  read_entries n 0 (drop 4 bs)
