-- Filter texts as document 01 describes them ("The program"), with no reader: what a line is, and what text and steps a list of lines has. proofs/Grammar
-- shows that a text is accepted exactly when it is that of a list of well-formed lines, and that its steps are theirs.
use Rattle.std.specs.Prelude.{◌≡◌, cond, List, [], ◌∷◌, ◌++◌, ℕ, ◌+◌, ◌-◌, ◌*◌, ◌^◌, ◌≤◌, ◌<◌, eqb, length}
use Rattle.run_list.specs.Rising.{All}
use Rattle.report.specs.Lines.{take_word, and_word, or_word, without_word}

-- a line: its kind of step and the digits of its value
pub record FilterLine : Type 0 where
  pub kind : ℕ
  pub digits : List ℕ

-- "`take`, `and`, `or` or `without`, a comma"; "Kinds: 1 take, 2 and, 3 or, 4 without"
unfoldable pub word : ℕ → List ℕ
word kind = cond (eqb kind 1) take_word (cond (eqb kind 2) and_word (cond (eqb kind 3) or_word (cond (eqb kind 4) without_word [])))

-- `0` to `9`
abbrev pub Digit : ℕ → Type 0
Digit c = (48 ≤ c) × (c ≤ 57)

-- the number of decimal digits: each one's value times ten to the power of how many follow it
unfoldable pub number_of : List ℕ → ℕ
number_of [] = 0
number_of (c ∷ digits) = (c - 48) * 10 ^ length digits + number_of digits

-- one of the four kinds, and "a value of 1 to 20 digits below 2^64 (leading zeros allowed)"
pub record WellFormed (line : FilterLine) : Type 0 where
  pub first : 1 ≤ line.kind
  pub last : line.kind ≤ 4
  pub some : 1 ≤ length line.digits
  pub few : length line.digits ≤ 20
  pub digits : All Digit line.digits
  pub small : number_of line.digits < 2 ^ 64

abbrev pub AllWellFormed : List FilterLine → Type 0
AllWellFormed [] = Unit {0}
AllWellFormed (line ∷ lines) = WellFormed line × AllWellFormed lines

-- the word with its comma, the value, "a line feed"
unfoldable pub line_text : FilterLine → List ℕ
unfolding word
line_text line = word line.kind ++ (line.digits ++ (10 ∷ []))

unfoldable pub lines_text : List FilterLine → List ℕ
unfolding line_text
lines_text [] = []
lines_text (line ∷ lines) = line_text line ++ lines_text lines

-- "A filter is a word list: kind, value, kind, value."
unfoldable pub steps_of : List FilterLine → List ℕ
unfolding number_of
steps_of [] = []
steps_of (line ∷ lines) = line.kind ∷ number_of line.digits ∷ steps_of lines

-- a text that is a sequence of well-formed lines, and these
pub record Written (text : List ℕ) : Type 0 where
  pub lines : List FilterLine
  pub good : AllWellFormed lines
  pub is : lines_text lines ≡ text
