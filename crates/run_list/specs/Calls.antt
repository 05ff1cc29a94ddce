-- What each call gives, for every input. None of them clears anything, so each clears up to place 0.
use Rattle.std.specs.Prelude.{Bool, false, List, ℕ, suc, ◌+◌, ◌*◌, length, Option, Some, None, Result, Ok, Err}
use Rattle.std.specs.Result.{result_unwrap_or}
use Rattle.fields.specs.Refusal.{◌then◌, refusal_number, refusal_of}
use Rattle.fields.specs.Bytes.{number_at}
use Rattle.fields.specs.Answers.{short, Gives, Says}
use Rattle.fields.specs.Limits.{too_long, max_bytes}
use Rattle.fields.specs.declared.outcome.Answer.{Answer}
use Rattle.fields.specs.declared.outcome.Number.{Number}
use Rattle.run_list.specs.Runs.{has, fault}
use Rattle.run_list.specs.Rows.{rows}
use Rattle.run_list.specs.Places.{begun}
use Rattle.run_list.specs.Blocks.{run_at_fault, block_fault, block_words, block_bytes}
use Rattle.run_list.specs.declared.Listed.{Listed}
use Rattle.run_list.specs.declared.place.Place.{Place}
use Rattle.run_list.specs.declared.place.PlaceAnswer.{PlaceAnswer}
use Rattle.fields.specs.declared.outcome.Refusal.{Refusal}

-- `decode`
abbrev pub Decoded : List ℕ → List ℕ → Answer → List ℕ → Type 0
Decoded block before r out =
    Gives (too_long max_bytes block then block_fault block then short (length (block_words block)) (length before)) (block_words block) 0 before r out

-- `encode`
abbrev pub Encoded : List ℕ → List ℕ → Answer → List ℕ → Type 0
Encoded runs before r out =
    Gives (fault runs then short (length (block_bytes runs)) (length before)) (block_bytes runs) 0 before r out

-- `search`: "the number of runs whose start is at or below the row, together with yes or no"
pub record Searches (runs : List ℕ) (row : ℕ) (r : PlaceAnswer) : Type 0 where
  pub number : Says (fault runs) (begun runs row) 0 r.refusal r.begun
  pub yes : Says (fault runs) (has runs row) false r.refusal r.listed

-- `contains`
abbrev pub Contains : List ℕ → ℕ → Listed → Type 0
Contains runs row r = Says (fault runs) (has runs row) false r.refusal r.yes

-- `count`
abbrev pub Counts : List ℕ → Number → Type 0
Counts runs r = Says (fault runs) (rows runs) 0 r.refusal r.number

-- a call's outcome as its answer
abbrev pub listed_of : Result Bool Refusal → Listed
listed_of (Ok b) = record { refusal = 0; yes = b }
listed_of (Err e) = record { refusal = refusal_number e; yes = false }

abbrev pub place_of : Result Place Refusal → PlaceAnswer
place_of (Ok p) = record { refusal = 0; begun = p.begun; listed = p.listed }
place_of (Err e) = record { refusal = refusal_number e; begun = 0; listed = false }

-- ---- a run of a block

-- the least number that may follow: any, or one above the last, where there is one. So a run starts above the end of the run before it
abbrev pub above : Option ℕ → ℕ
above None = 0
above (Some last) = suc last

-- `run_at`: the refusal of run k of a block, after a run that ends at last, if there is one; or its end
abbrev pub RunAt : List ℕ → ℕ → Option ℕ → Result ℕ Refusal → Type 0
RunAt block k last r =
    Says (run_at_fault block (4 + 16 * k) (above last)) (number_at 8 block (4 + 16 * k + 8)) 0 (refusal_of r) (result_unwrap_or r 0)
