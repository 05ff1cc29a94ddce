-- Filter lines (document 01, "The program"): "`take`, `and`, `or` or `without`, a comma, a value of 1 to 20 digits below 2^64 (leading zeros allowed), a
-- line feed; another line, or a last one without its line feed, is 8".
use Rattle.std.specs.Prelude.{Bool, cond, ◌&&◌, List, [], ◌∷◌, ℕ, zero, suc, ◌+◌, ◌-◌, ◌*◌, ◌^◌, leb, ltb, eqb, length, take, drop, get_or}
use Rattle.fields.specs.Refusal.{when, ◌then◌}
use Rattle.fields.specs.Directory.{same}

-- ---- the word of a line, with its comma

abbrev pub take_word : List ℕ
take_word = 116 ∷ 97 ∷ 107 ∷ 101 ∷ 44 ∷ []

abbrev pub and_word : List ℕ
and_word = 97 ∷ 110 ∷ 100 ∷ 44 ∷ []

abbrev pub or_word : List ℕ
or_word = 111 ∷ 114 ∷ 44 ∷ []

abbrev pub without_word : List ℕ
without_word = 119 ∷ 105 ∷ 116 ∷ 104 ∷ 111 ∷ 117 ∷ 116 ∷ 44 ∷ []

-- a text starts with a word
unfoldable pub starts : List ℕ → List ℕ → Bool
unfolding same
starts word text = same (take (length word) text) word

-- the kind of step that a text starts with, 0 for none
unfoldable pub word_kind : List ℕ → ℕ
unfolding starts
word_kind text =
    cond (starts take_word text) 1 (cond (starts and_word text) 2 (cond (starts or_word text) 3 (cond (starts without_word text) 4 0)))

-- the length of its word and comma
unfoldable pub word_length : ℕ → ℕ
word_length kind = cond (eqb kind 1) 5 (cond (eqb kind 2) 4 (cond (eqb kind 3) 3 (cond (eqb kind 4) 8 0)))

-- ---- the value of a line

-- `0` to `9`
abbrev pub is_digit : ℕ → Bool
is_digit c = leb 48 c && leb c 57

-- the number of digits that a text starts with
unfoldable pub digit_count : List ℕ → ℕ
digit_count [] = 0
digit_count (c ∷ text) = cond (is_digit c) (suc (digit_count text)) 0

-- the number of n digits at the front of a text, after digits whose number is x
unfoldable pub number_from : ℕ → ℕ → List ℕ → ℕ
number_from x zero text = x
number_from x (suc n) [] = x
number_from x (suc n) (c ∷ text) = number_from (x * 10 + (c - 48)) n text

-- the number of all digits at the front of a text
unfoldable pub value_of : List ℕ → ℕ
unfolding digit_count number_from
value_of text = number_from 0 (digit_count text) text

-- "1 to 20 digits below 2^64", and then a line feed
unfoldable pub value_good : List ℕ → Bool
unfolding digit_count value_of
value_good text = leb 1 (digit_count text) && (leb (digit_count text) 20 && (ltb (value_of text) (2 ^ 64) && eqb (get_or text (digit_count text) 0) 10))

-- ---- a line, and all lines

-- the text after the word of a line of this kind
abbrev pub after_word : ℕ → List ℕ → List ℕ
after_word kind text = drop (word_length kind) text

-- the kind of the line that a text starts with, 0 where it is no line
unfoldable pub line_kind : List ℕ → ℕ
unfolding word_kind word_length value_good
line_kind text = cond (eqb (word_kind text) 0) 0 (cond (value_good (after_word (word_kind text) text)) (word_kind text) 0)

-- the value of such a line, and its length with its line feed
unfoldable pub line_value : List ℕ → ℕ
unfolding word_kind word_length value_of
line_value text = value_of (after_word (word_kind text) text)

unfoldable pub line_length : List ℕ → ℕ
unfolding word_kind word_length digit_count
line_length text = word_length (word_kind text) + digit_count (after_word (word_kind text) text) + 1

-- 8 where a text of at most n bytes has anything but lines
unfoldable pub lines_fault : ℕ → List ℕ → ℕ
unfolding line_kind line_length
lines_fault zero text = 0
lines_fault (suc n) text = cond (eqb (length text) 0) 0 (when (eqb (line_kind text) 0) 8 then lines_fault n (drop (line_length text) text))

-- the steps of its lines: kind and value in turn
unfoldable pub lines_steps : ℕ → List ℕ → List ℕ
unfolding line_kind line_value line_length
lines_steps zero text = []
lines_steps (suc n) text = cond (eqb (length text) 0) [] (line_kind text ∷ line_value text ∷ lines_steps n (drop (line_length text) text))

-- a line has bytes, so that the lines of a text are no more than its bytes
unfoldable pub text_fault : List ℕ → ℕ
unfolding lines_fault
text_fault text = lines_fault (length text) text

unfoldable pub text_steps : List ℕ → List ℕ
unfolding lines_steps
text_steps text = lines_steps (length text) text
