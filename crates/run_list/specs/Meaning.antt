-- What the search's answer means, by the words of runs alone. No contract needs it: the laws in PlaceLaws.antt say so of whatever meets the call's contract.
use Rattle.std.specs.Prelude.{List, ℕ, ◌+◌, ◌-◌, ◌*◌, ◌/◌, ◌≤◌, ◌<◌, length, get_or}

-- row r lies between run n - 1 and run n: at the end of the one or past it, and before the start of the other. The first gap has no run before it, the last none after it
pub record InGap (ws : List ℕ) (r n : ℕ) : Type 0 where
  pub before : 1 ≤ n → get_or ws (2 * (n - 1) + 1) 0 ≤ r
  pub after : n < length ws / 2 → r < get_or ws (2 * n) 0

-- row r is in run n - 1: "its rows r have start <= r < end"
pub record InRun (ws : List ℕ) (r n : ℕ) : Type 0 where
  pub some : 1 ≤ n
  pub within : n ≤ length ws / 2
  pub start : get_or ws (2 * (n - 1)) 0 ≤ r
  pub end : r < get_or ws (2 * (n - 1) + 1) 0
