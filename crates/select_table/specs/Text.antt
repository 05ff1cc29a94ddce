-- What the program prints (REQUESTS.md, job 6).
use Rattle.std.specs.Prelude.{◌≡◌, refl, List, [], ◌∷◌, ◌++◌, map, ℕ}
use Rattle.std.specs.Fmt.{decimal, digits}
use Rattle.std.specs.List.{flat_map}
use Rattle.fields.specs.Counting.{count_below}
use Rattle.packed.specs.Bits.{bit_at}
use Rattle.byte_select.specs.Select.{first_with, nth_with, entry, table}

-- a number and a line feed
abbrev pub line : ℕ → List ℕ
line n = decimal n ++ 10 ∷ []

-- "A program prints that table, one number per line"
unfoldable pub text : List ℕ
text = flat_map line table

-- the lines of byte 0x0D: "0", "2", "3", "8"
examples : flat_map line (map entry (104 ∷ 105 ∷ 106 ∷ 107 ∷ [])) ≡ 48 ∷ 10 ∷ 50 ∷ 10 ∷ 51 ∷ 10 ∷ 56 ∷ 10 ∷ []
unfolding entry nth_with first_with bit_at count_below digits
examples = refl
