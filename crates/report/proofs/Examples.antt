-- Edges of filter lines, and what the program prints, computed.
use mathlib.Core.Path.{◌≡◌, refl}
use mathlib.Core.List.{List, [], ◌∷◌, ◌++◌}
use Prim.Native.Nat.{ℕ}
use native.Mathlib.Omega.{arith}
use lib.ListN.{take, replicate}
use Rattle.fields.specs.Refusal.{when, ◌then◌}
use Rattle.fields.specs.Answers.{accepted, padded, over, after, short}
use Rattle.fields.specs.Directory.{same}
use Rattle.fields.specs.Bytes.{number_at, from_le, to_le}
use Rattle.fields.specs.Limits.{too_long}
use Rattle.run_list.specs.Runs.{run_fault, odd}
use Rattle.boundary.specs.Merge.{merge, combine}
use Rattle.run_list.specs.Blocks.{read_fault, block_fault, words_at, block_runs, block_words, word_bytes, block_bytes}
use Rattle.index.specs.Index.{block_at, head_fault, entries_fault, entry_list, entries, words_of, entry_bytes, entries_bytes, index_bytes, present, sample, sample_bytes}
use Rattle.bitmap_index.specs.Filter.{step, keep_from, keep, named, kinds_fault, missing_fault, filter_fault}
use Rattle.report.specs.Lines.{take_word, and_word, or_word, without_word, starts, word_kind, word_length, digit_count, number_from, value_of, value_good, line_kind, line_value, line_length, lines_fault, lines_steps, text_fault, text_steps}
use Rattle.report.specs.Grammar.{FilterLine, word, number_of, WellFormed, line_text, lines_text, steps_of}
use Rattle.report.specs.Report.{digits_before, decimal, count_word, run_word, refused_word, number_line, run_line, run_lines, kept_text, outcome, report_fault, report, Reported}

-- `take,3`, `without,007`; no lines; a last line without its line feed; no digits; 21 digits; 2^64; a space; an unknown word
lines : (text_steps (116 ∷ 97 ∷ 107 ∷ 101 ∷ 44 ∷ 51 ∷ 10 ∷ 119 ∷ 105 ∷ 116 ∷ 104 ∷ 111 ∷ 117 ∷ 116 ∷ 44 ∷ 48 ∷ 48 ∷ 55 ∷ 10 ∷ []) ≡ 1 ∷ 3 ∷ 4 ∷ 7 ∷ [])
    × (text_fault (116 ∷ 97 ∷ 107 ∷ 101 ∷ 44 ∷ 51 ∷ 10 ∷ 119 ∷ 105 ∷ 116 ∷ 104 ∷ 111 ∷ 117 ∷ 116 ∷ 44 ∷ 48 ∷ 48 ∷ 55 ∷ 10 ∷ []) ≡ 0)
    × (text_fault [] ≡ 0)
    × (text_steps [] ≡ [])
    × (text_fault (111 ∷ 114 ∷ 44 ∷ 49 ∷ []) ≡ 8)
    × (text_fault (111 ∷ 114 ∷ 44 ∷ 10 ∷ []) ≡ 8)
    × (text_fault (or_word ++ (replicate 21 48 ++ (10 ∷ []))) ≡ 8)
    × (text_fault (or_word ++ (replicate 20 48 ++ (10 ∷ []))) ≡ 0)
    × (text_fault (and_word ++ (49 ∷ 56 ∷ 52 ∷ 52 ∷ 54 ∷ 55 ∷ 52 ∷ 52 ∷ 48 ∷ 55 ∷ 51 ∷ 55 ∷ 48 ∷ 57 ∷ 53 ∷ 53 ∷ 49 ∷ 54 ∷ 49 ∷ 54 ∷ 10 ∷ [])) ≡ 8)
    × (text_steps (and_word ++ (49 ∷ 56 ∷ 52 ∷ 52 ∷ 54 ∷ 55 ∷ 52 ∷ 52 ∷ 48 ∷ 55 ∷ 51 ∷ 55 ∷ 48 ∷ 57 ∷ 53 ∷ 53 ∷ 49 ∷ 54 ∷ 49 ∷ 53 ∷ 10 ∷ [])) ≡ 2 ∷ 18446744073709551615 ∷ [])
    × (text_fault (111 ∷ 114 ∷ 44 ∷ 32 ∷ 49 ∷ 10 ∷ []) ≡ 8)
    × (text_fault (110 ∷ 111 ∷ 116 ∷ 44 ∷ 49 ∷ 10 ∷ []) ≡ 8)
unfolding text_fault text_steps lines_fault lines_steps line_kind line_value line_length word_kind word_length starts same value_good value_of digit_count number_from when ◌then◌
lines = (refl, refl, refl, refl, refl, refl, refl, refl, refl, refl, refl, refl)

-- document 01's example, over its index `sample_bytes`: "Input `take,3`, `without,7`. Output, whole: `count,4`, `run,0,2`, `run,7,9`"; without the last
-- line feed; without an index
sample_lines : List ℕ
sample_lines = take_word ++ (51 ∷ 10 ∷ (without_word ++ (55 ∷ 10 ∷ [])))

prints : (report sample_bytes sample_lines
    ≡ count_word ++ (52 ∷ 10 ∷ (run_word ++ (48 ∷ 44 ∷ 50 ∷ 10 ∷ (run_word ++ (55 ∷ 44 ∷ 57 ∷ 10 ∷ []))))))
    × (report sample_bytes (take 16 sample_lines) ≡ refused_word ++ (56 ∷ 10 ∷ []))
    × (report [] (take 16 sample_lines) ≡ refused_word ++ (56 ∷ 10 ∷ []))
    × (report [] sample_lines ≡ refused_word ++ (50 ∷ 10 ∷ []))
    × (report sample_bytes [] ≡ count_word ++ (48 ∷ 10 ∷ []))
    × (report sample_bytes (or_word ++ (53 ∷ 10 ∷ [])) ≡ refused_word ++ (49 ∷ 49 ∷ 10 ∷ []))
    × (decimal 18446744073709551615 ≡ 49 ∷ 56 ∷ 52 ∷ 52 ∷ 54 ∷ 55 ∷ 52 ∷ 52 ∷ 48 ∷ 55 ∷ 51 ∷ 55 ∷ 48 ∷ 57 ∷ 53 ∷ 53 ∷ 49 ∷ 54 ∷ 49 ∷ 53 ∷ [])
unfolding sample sample_lines report report_fault outcome kept_text number_line run_line run_lines decimal digits_before accepted when ◌then◌ text_fault text_steps lines_fault lines_steps line_kind line_value line_length word_kind word_length starts same value_good value_of digit_count number_from filter_fault too_long kinds_fault odd missing_fault named present keep keep_from step combine merge words_of entries entry_list entries_fault head_fault block_at index_bytes entries_bytes entry_bytes read_fault block_fault run_fault words_at block_runs block_words word_bytes block_bytes number_at from_le to_le
prints = (refl, refl, refl, refl, refl, refl, refl)

-- `refused,2` and its line feed into an output that is exactly as long; a byte longer, which is kept; a byte shorter: 10, and the output is kept
room : Reported [] sample_lines (replicate 10 7) (record { refusal = 0; len = 10 }) (refused_word ++ (50 ∷ 10 ∷ []))
    × Reported [] sample_lines (replicate 11 7) (record { refusal = 0; len = 10 }) (refused_word ++ (50 ∷ 10 ∷ 7 ∷ []))
    × Reported [] sample_lines (replicate 9 7) (record { refusal = 10; len = 0 }) (replicate 9 7)
unfolding after accepted over padded short when
room =
    rw prints.3
    (record { refusal = refl; len = refl; output = refl }, record { refusal = refl; len = refl; output = refl }, record { refusal = refl; len = refl; output = refl })

-- `take,3`, `without,7` as lines, and `or,007`: their texts and steps
take_three : FilterLine
take_three = record { kind = 1; digits = 51 ∷ [] }

without_seven : FilterLine
without_seven = record { kind = 4; digits = 55 ∷ [] }

or_seven : FilterLine
or_seven = record { kind = 3; digits = 48 ∷ 48 ∷ 55 ∷ [] }

grammar : (lines_text (take_three ∷ without_seven ∷ []) ≡ sample_lines)
    × (steps_of (take_three ∷ without_seven ∷ []) ≡ 1 ∷ 3 ∷ 4 ∷ 7 ∷ [])
    × (lines_text (or_seven ∷ []) ≡ or_word ++ (48 ∷ 48 ∷ 55 ∷ 10 ∷ []))
    × (steps_of (or_seven ∷ []) ≡ 3 ∷ 7 ∷ [])
    × (number_of (49 ∷ 56 ∷ 52 ∷ 52 ∷ 54 ∷ 55 ∷ 52 ∷ 52 ∷ 48 ∷ 55 ∷ 51 ∷ 55 ∷ 48 ∷ 57 ∷ 53 ∷ 53 ∷ 49 ∷ 54 ∷ 49 ∷ 53 ∷ []) ≡ 18446744073709551615)
unfolding sample_lines take_three without_seven or_seven lines_text line_text steps_of number_of word
grammar = (refl, refl, refl, refl, refl)

formed : WellFormed or_seven
unfolding or_seven number_of
formed =
    record {
      first = omega arith;
      last = omega arith;
      some = omega arith;
      few = omega arith;
      digits = ((omega arith, omega arith), ((omega arith, omega arith), ((omega arith, omega arith), tt)));
      small = omega arith;
    }
