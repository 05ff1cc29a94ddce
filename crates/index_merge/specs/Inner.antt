-- What the contracts of private functions cite. No open contract needs it.
use Rattle.std.specs.Prelude.{◌≡◌, cond, Option, None, Some, List, [], ◌∷◌, ℕ, ◌+◌, ◌*◌, ◌≤◌, min, eqb, length}
use Rattle.std.proofs.lemmas.List.Edits.{sets}
use Rattle.fields.specs.Bytes.{to_le, stored}
use Rattle.fields.specs.Limits.{max_bytes}
use Rattle.run_list.specs.Blocks.{block_words}
use Rattle.index.specs.Index.{Entry, entry_list, index_bytes}
use Rattle.index_merge.specs.declared.entries.Entries.{Entries}

-- ---- the entries that are left

abbrev pub listed : Entries → List Entry
listed c = entry_list c.left c.bytes.now c.at

-- ---- the first of them

-- its value, if there is one
abbrev pub head_of : List Entry → Option ℕ
head_of [] = None
head_of (e ∷ es) = Some e.value

-- the least first value of two lists
abbrev pub least_value : List Entry → List Entry → ℕ
least_value [] [] = 0
least_value [] (f ∷ fs) = f.value
least_value (e ∷ es) [] = e.value
least_value (e ∷ es) (f ∷ fs) = min e.value f.value

-- its words, where its value is v
abbrev pub first_words : ℕ → List Entry → List ℕ
first_words v [] = []
first_words v (e ∷ es) = cond (eqb e.value v) e.words []

-- the entries past it, where its value is v
abbrev pub past : ℕ → List Entry → List Entry
past v [] = []
past v (e ∷ es) = cond (eqb e.value v) es (e ∷ es)

-- what is taken of them for v: a block, and the entries that are left then
pub record Taken (v : ℕ) (es : List Entry) (block : List ℕ) (left : List Entry) : Type 0 where
  pub words : block_words block ≡ first_words v es
  pub rest : left ≡ past v es
  pub short : length block ≤ max_bytes

-- ---- writing

-- an output has room for n bytes, within the limit of an index
pub record Room (n : ℕ) (out : List ℕ) : Type 0 where
  pub room : n ≤ length out
  pub limit : n ≤ max_bytes

-- the head of an entry: its value, and the length of a block of w words
pub record HeadStored (v w : ℕ) (before : List ℕ) (to : ℕ) (out : List ℕ) : Type 0 where
  pub written : out ≡ stored (stored before to (to_le 8 v)) (to + 8) (to_le 4 (4 + 8 * w))

-- bytes are counted from place k on, and stored where they fit
pub record WrittenAt (bytes before : List ℕ) (k n : ℕ) (out : List ℕ) : Type 0 where
  pub next : n ≡ k + length bytes
  pub written : Room (k + length bytes) before → out ≡ sets before k bytes
  pub same : length out ≡ length before

-- the same of an index
pub record WrittenIndex (es : List Entry) (before : List ℕ) (n : ℕ) (out : List ℕ) : Type 0 where
  pub number : n ≡ length (index_bytes es)
  pub written : Room (length (index_bytes es)) before → out ≡ sets before 0 (index_bytes es)
