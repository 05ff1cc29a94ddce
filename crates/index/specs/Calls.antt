-- What each call gives, for every input.
use Rattle.std.specs.Prelude.{◌≡◌, List, [], ℕ, length, Option, Some, None, Result, Ok, Err}
use Rattle.fields.specs.Refusal.{refusal_number}
use Rattle.fields.specs.declared.outcome.Refusal.{Refusal}
use Rattle.fields.specs.Answers.{accepted}
use Rattle.index.specs.Index.{index_fault, entries, all_runs, block_of}
use Rattle.index.specs.Search.{place_of}
use Rattle.index.specs.declared.Counts.{Counts}
use Rattle.index.specs.declared.IndexRead.{IndexRead}
use Rattle.index.specs.declared.Part.{Part}

-- `decode`: "reading one gives its entry count and the number of its runs"
pub record Read (s : List ℕ) (r : IndexRead) : Type 0 where
  pub refusal : r.refusal ≡ index_fault s
  pub count : r.entries ≡ accepted (index_fault s) (length (entries s)) 0
  pub total : r.runs ≡ accepted (index_fault s) (all_runs (entries s)) 0

-- `bitmap`: "Its length is 0 when the value is missing or the index is refused, without a number"
unfoldable pub lookup : List ℕ → ℕ → List ℕ
lookup s v = accepted (index_fault s) (block_of (entries s) v) []

-- `bitmap_at`: the place of that block in the index, after its length field, and its length; both 0 where there is none
unfoldable pub lookup_place : List ℕ → ℕ → ℕ
lookup_place s v = accepted (index_fault s) (place_of s v) 0

pub record PartOf (s : List ℕ) (v : ℕ) (r : Part) : Type 0 where
  pub place : r.at ≡ lookup_place s v
  pub size : r.len ≡ length (lookup s v)

-- ---- outcomes as these answers

abbrev pub read_of : Result Counts Refusal → IndexRead
read_of (Ok c) = record { refusal = 0; entries = c.entries; runs = c.runs }
read_of (Err e) = record { refusal = refusal_number e; entries = 0; runs = 0 }

abbrev pub part_of : Option Part → Part
part_of None = record { at = 0; len = 0 }
part_of (Some p) = p
