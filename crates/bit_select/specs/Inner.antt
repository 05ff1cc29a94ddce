-- What the private functions' contracts cite. No open contract needs it.
use Rattle.std.specs.Prelude.{◌≡◌, Bool, true, List, ℕ, ◌+◌, ◌*◌, ◌/◌, ◌%◌, ◌^◌, ◌<◌, ◌≤◌, eqb}
use Rattle.fields.specs.Bytes.{number_at}
use Rattle.fields.specs.Counting.{count_below}
use Rattle.packed.specs.Bits.{bit_at, set_below}
use Rattle.byte_select.specs.Select.{nth_with}

-- digit i of a number, lowest first
unfoldable pub digit : ℕ → ℕ → Bool
digit x i = eqb (x / 2 ^ i % 2) 1

-- the bit with k set bits before it is in this word, and left set bits of the word are before it
pub record InWord (bits : List ℕ) (k word digits left : ℕ) : Type 0 where
  pub read : digits ≡ number_at 8 bits (word * 8)
  pub passed : set_below bits (word * 64) + left ≡ k
  pub inside : left < count_below (digit digits) 64

-- the bit at a place is the one with k set bits before it
pub record Placed (bits : List ℕ) (k p : ℕ) : Type 0 where
  pub set : bit_at bits p ≡ true
  pub before : set_below bits p ≡ k

-- of 2 * half digits of a number, the set one with k set ones below it is among half of them from place at on, of which left set ones are below it
pub record Narrowed (x k half digits left at : ℕ) : Type 0 where
  pub same : nth_with (digit x) (half + half) k ≡ at + nth_with (digit digits) half left
  pub inside : left < count_below (digit digits) half
  pub within : at ≤ half
