-- What the contracts of private functions cite. No open contract needs it.
use Rattle.std.specs.Prelude.{◌≡◌, List, ◌∷◌, ◌++◌, ℕ, ◌+◌, ◌-◌, ◌≤◌, length, take, drop}
use Rattle.fields.specs.Answers.{Gives}
use Rattle.fields.specs.Limits.{no_room, max_bytes}
use Rattle.fields.specs.declared.outcome.Answer.{Answer}
use Rattle.run_list.specs.Blocks.{block_words}
use Rattle.run_list.specs.Runs.{Valid}
use Rattle.boundary.specs.Merge.{combine, either}
use Rattle.index.specs.Index.{Entry, entry, entry_list, entries, entries_bytes, index_bytes}
use Rattle.index.specs.Inner.{EntriesFit}
use Rattle.index_write.specs.Calls.{inserted}
use Rattle.index_write.specs.declared.InsertionPoint.{InsertionPoint}

-- ---- writing

-- n entries from a place on, written
abbrev pub bytes_from : List ℕ → ℕ → ℕ → List ℕ
bytes_from s at n = entries_bytes (entry_list n s at)

-- an index of entries fits an output and is within its limit
pub record Fitting (es : List Entry) (out : List ℕ) : Type 0 where
  pub room : length (index_bytes es) ≤ length out
  pub limit : length (index_bytes es) ≤ max_bytes

-- what a call gives that has no other refusal than for its room
abbrev pub Fitted : List ℕ → List ℕ → Answer → List ℕ → Type 0
Fitted bytes before r out = Gives (no_room max_bytes (length bytes) (length before)) bytes 0 before r out

-- ---- insertion

-- the runs that a value has after an insertion, from those between two places
abbrev pub joined : List ℕ → List ℕ → ℕ → ℕ → List ℕ
joined ws s from next = combine either ws (block_words (take (next - from) (drop from s)))

-- the entries after an insertion
abbrev pub inserted_at : List ℕ → ℕ → List ℕ → InsertionPoint → List Entry
inserted_at s v ws r = entry_list r.below s 4 ++ (entry v (joined ws s r.from r.next) ∷ entry_list r.rest s r.next)

-- the insertion point of a value
pub record InsertsAt (s : List ℕ) (v : ℕ) (r : InsertionPoint) : Type 0 where
  pub result : (ws : List ℕ) → Valid ws → inserted v ws (entries s) ≡ inserted_at s v ws r
  pub size : 4 + length (bytes_from s 4 r.below) + r.old + length (bytes_from s r.next r.rest) ≡ length (index_bytes (entries s))
  pub front : EntriesFit s 4 r.below
  pub after : EntriesFit s r.next r.rest
  pub part : r.from ≤ r.next
  pub count : r.below + r.rest ≤ max_bytes
