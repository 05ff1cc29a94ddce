-- What the private readers' contracts cite. No open contract needs it.
use Rattle.std.specs.Prelude.{◌≡◌, List, ℕ, ◌^◌, ◌<◌}
use Rattle.fields.specs.Bytes.{number_at}

-- r is the number of n bytes at a place, and as small as such a number is
pub record Read (n : ℕ) (bytes : List ℕ) (at r : ℕ) : Type 0 where
  pub value : r ≡ number_at n bytes at
  pub small : r < 256 ^ n
