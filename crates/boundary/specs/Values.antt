-- One boundary of a merge, on values: two words that may be missing, and what the operation says on both sides of it.
use Rattle.std.specs.Prelude.{Bool, true, false, not, ◌&&◌, ℕ, ◌%◌, min, ltb, eqb, Option, None, Some}

-- the state before the word at an index of a list that starts outside
abbrev pub odd_at : ℕ → Bool
odd_at i = eqb (i % 2) 1

-- the lesser of two words that may be missing, if there is one
abbrev pub lesser_word : Option ℕ → Option ℕ → Option ℕ
lesser_word None b = b
lesser_word (Some x) None = Some x
lesser_word (Some x) (Some y) = Some (min x y)

-- the same as a number, 0 where there is none
abbrev pub lesser : Option ℕ → Option ℕ → ℕ
lesser None None = 0
lesser None (Some y) = y
lesser (Some x) None = x
lesser (Some x) (Some y) = min x y

-- the first of two words that may be missing comes alone: the other is missing or greater
abbrev pub alone : Option ℕ → Option ℕ → Bool
alone None f = false
alone (Some x) None = true
alone (Some x) (Some y) = ltb x y

-- two states differ
abbrev pub changes : Bool → Bool → Bool
changes true v = not v
changes false v = v

-- of the next sixteen words of two lists, by the second and the last of each: neither sixteen come before the other's second, nor do both end alike
unfoldable pub no_stretch : ℕ → ℕ → ℕ → ℕ → Bool
no_stretch x1 x15 y1 y15 = not (ltb x15 y1) && (not (ltb y15 x1) && not (eqb x15 y15))
