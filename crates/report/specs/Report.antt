-- What the program prints (document 01, "The program"): "It prints `count,` and the number of kept rows, then per run `run,`, start, comma, end. A refusal
-- prints only `refused,` and the number."
use Rattle.std.specs.Prelude.{cond, List, [], ◌∷◌, ◌++◌, ℕ, zero, suc, ◌+◌, ◌/◌, ◌%◌, ltb, length}
use Rattle.fields.specs.Refusal.{when, ◌then◌}
use Rattle.fields.specs.Answers.{accepted, Writes}
use Rattle.fields.specs.declared.outcome.Answer.{Answer}
use Rattle.run_list.specs.Rows.{rows}
use Rattle.index.specs.Index.{entries}
use Rattle.bitmap_index.specs.Filter.{keep, filter_fault}
use Rattle.report.specs.Lines.{text_fault, text_steps}

-- the digits of x, at most n, in front of a text: the last one, and those of the rest before it
unfoldable pub digits_before : ℕ → ℕ → List ℕ → List ℕ
digits_before zero x text = text
digits_before (suc n) x text = cond (ltb x 10) ((48 + x % 10) ∷ text) (digits_before n (x / 10) ((48 + x % 10) ∷ text))

-- a number below 2^64 in decimal: it has at most 20 digits
unfoldable pub decimal : ℕ → List ℕ
unfolding digits_before
decimal x = digits_before 20 x []

-- `count,`
abbrev pub count_word : List ℕ
count_word = 99 ∷ 111 ∷ 117 ∷ 110 ∷ 116 ∷ 44 ∷ []

-- `run,`
abbrev pub run_word : List ℕ
run_word = 114 ∷ 117 ∷ 110 ∷ 44 ∷ []

-- `refused,`
abbrev pub refused_word : List ℕ
refused_word = 114 ∷ 101 ∷ 102 ∷ 117 ∷ 115 ∷ 101 ∷ 100 ∷ 44 ∷ []

-- a word and a number, with a line feed
unfoldable pub number_line : List ℕ → ℕ → List ℕ
unfolding decimal
number_line word x = word ++ (decimal x ++ (10 ∷ []))

unfoldable pub run_line : ℕ → ℕ → List ℕ
unfolding decimal
run_line s e = run_word ++ (decimal s ++ (44 ∷ (decimal e ++ (10 ∷ []))))

unfoldable pub run_lines : List ℕ → List ℕ
unfolding run_line
run_lines [] = []
run_lines (s ∷ []) = []
run_lines (s ∷ e ∷ ws) = run_line s e ++ run_lines ws

-- what is printed of kept runs
unfoldable pub kept_text : List ℕ → List ℕ
unfolding number_line run_lines
kept_text ws = number_line count_word (rows ws) ++ run_lines ws

-- what is printed for a refusal, or for what is kept
unfoldable pub outcome : ℕ → List ℕ → List ℕ
unfolding number_line kept_text
outcome f ws = accepted f (kept_text ws) (number_line refused_word f)

-- "at most 8,192 bytes; longer: 1, the file first"; a malformed line is "8, reported before the index is judged"; then the filter's own refusals. An
-- index of 8,192 bytes has fewer than 512 runs, and no filter needs more than two words for each
unfoldable pub report_fault : List ℕ → List ℕ → ℕ
report_fault index text =
    when (ltb 8192 (length index)) 1
    then when (ltb 8192 (length text)) 1
    then text_fault text
    then filter_fault index (text_steps text)

-- what the program prints for an index and a filter
unfoldable pub report : List ℕ → List ℕ → List ℕ
unfolding outcome report_fault
report index text = outcome (report_fault index text) (keep (entries index) (text_steps text))

-- `report`: a refusal of the index or of the filter is text, and no refusal of this call
abbrev pub Reported : List ℕ → List ℕ → List ℕ → Answer → List ℕ → Type 0
Reported index text before r out = Writes (report index text) before r out
