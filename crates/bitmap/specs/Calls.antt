-- What each call gives, for every input. None of them clears anything, so each clears up to place 0.
use Rattle.std.specs.Prelude.{◌≡◌, Bool, List, ℕ, ◌/◌, length}
use Rattle.fields.specs.Refusal.{◌then◌}
use Rattle.fields.specs.Bytes.{to_le, stored}
use Rattle.fields.specs.Answers.{Gives}
use Rattle.fields.specs.Limits.{no_room, max_words}
use Rattle.fields.specs.declared.outcome.Answer.{Answer}
use Rattle.run_list.specs.Runs.{fault2}
use Rattle.boundary.specs.Merge.{combine}
use Rattle.boundary.specs.Stores.{store_words}

-- `union`, `intersect`, `difference`
abbrev pub Combined : (Bool → Bool → Bool) → List ℕ → List ℕ → List ℕ → Answer → List ℕ → Type 0
Combined op left right before r out =
    Gives (fault2 left right then no_room max_words (length (combine op left right)) (length before)) (combine op left right) 0 before r out

-- `merge_to_block`, `union_to_block`: the words ws are counted, and stored as a block, the run count in front of them. Where the block fits it is written whole (`stored-whole`)
pub record StoredBlock (ws before : List ℕ) (n : ℕ) (out : List ℕ) : Type 0 where
  pub number : n ≡ length ws
  pub written : out ≡ stored (store_words before 4 ws) 0 (to_le 4 (length ws / 2))
