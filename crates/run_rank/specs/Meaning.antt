-- What the directory means, by listed rows alone. The laws in DirectoryLaws.antt say so of whatever meets the calls' contracts.
use Rattle.std.specs.Prelude.{◌≡◌, List, ℕ, ◌+◌, ◌*◌, ◌/◌, ◌<◌, length, get_or}
use Rattle.fields.specs.Counting.{count_below}
use Rattle.fields.specs.Answers.{none}
use Rattle.run_list.specs.Runs.{has}

-- "one word more than there are runs": for each run the listed rows below its start, and "the last being the total", the listed rows below 2^64 - 1, which is
-- never a row
pub record CountsRows (runs directory : List ℕ) : Type 0 where
  pub words : length directory ≡ length runs / 2 + 1
  pub before : (i : ℕ) → i < length runs / 2 → get_or directory i 0 ≡ count_below (has runs) (get_or runs (2 * i) 0)
  pub total : get_or directory (length runs / 2) 0 ≡ count_below (has runs) none
