-- Laws of the kinds of word (`Word`).
use Rattle.std.specs.Prelude.{◌≡◌, List, ℕ, ◌<◌, length, get_or}
use Rattle.std.proofs.Common.{sym}
use Rattle.std.proofs.lemmas.Grind.{get_or_default_zero}

-- a number of a list is the same by any default
pub index_same : (ws : List ℕ) (i none : ℕ) → i < length ws → get_or ws i 0 ≡ get_or ws i none
index_same ws i none h = sym (get_or_default_zero ws i none h)
