-- Document 01's table: a call that meets its contract and has room answers as the row says. What the refusal and the result are is computed.
use mathlib.Core.Path.{◌≡◌, refl, sym, ap, ◌∙◌}
use mathlib.Core.Bool.{true}
use mathlib.Core.List.{List, [], ◌∷◌}
use Prim.Native.Nat.{ℕ, zero, suc, ◌≤◌}
use native.Mathlib.Omega.{arith}
use borrow.Author.Tests.{leb-true}
use lib.Dec.{leb}
use lib.ListN.{length, take}
use Rattle.fields.specs.Refusal.{when, ◌then◌}
use Rattle.fields.specs.Bytes.{from_le, number_at, to_le}
use Rattle.fields.specs.Counting.{count_below}
use Rattle.fields.specs.Answers.{accepted, short2, Gives, Says}
use Rattle.fields.specs.Directory.{same, other_directory}
use Rattle.fields.specs.Limits.{too_long, max_words}
use Rattle.fields.specs.declared.outcome.Answer.{Answer}
use Rattle.fields.proofs.Answers.{gives-result}
use Rattle.fields.proofs.Refusals.{then-assoc, then-none}
use Rattle.fields.proofs.Limits.{room_fits}
use Rattle.packed.specs.Bits.{bit_at, set_below, cut_to, counts}
use Rattle.run_list.specs.Runs.{run_fault, runs_fault, odd, own_fault, fault, fault2}
use Rattle.run_list.specs.Blocks.{read_fault, block_fault, words_at, block_runs, block_words, word_bytes, block_bytes}
use Rattle.boundary.specs.Merge.{merge, combine}
use Rattle.packed_build.specs.Packed.{list_of}
use Rattle.run_rank.specs.RunRanks.{directory_from, run_directory, run_select, directory_fault}
use Rattle.bit_rank.specs.BitRanks.{bit_directory, rank_fault}
use Rattle.presence.specs.Present.{position_of, presence_directory, position_fault}
use Rattle.index.specs.Index.{block_at, head_fault, entries_fault, entry_list, entries, words_of, entry_bytes, entries_bytes, index_bytes, sample, sample_bytes}
use Rattle.bitmap_index.specs.Filter.{step, keep_from, keep, kinds_fault, filter_fault}
use Rattle.report.specs.Lines.{starts, word_kind, word_length, digit_count, number_from, value_of, value_good, line_kind, line_value, line_length, lines_fault, lines_steps, text_fault, text_steps}
use Rattle.report.specs.Report.{digits_before, decimal, number_line, run_line, run_lines, kept_text, outcome, report_fault, report}
use Rattle.demands.specs.Table.{Asked, union, intersect, difference, decode, rank, select, from_packed_bits, position, total, filter, program, Made, Meets, given, answered, refusal_of, result_of, Room, Row, table, EachRow, Statement}
use Rattle.demands.proofs.Theorem.{short_none}

-- ---- a call that meets its contract: it writes words, or returns a number

call-given : (f : ℕ) (ws : List ℕ) (n : ℕ) (before : List ℕ) (r : Answer) (out : List ℕ) → Gives f ws n before r out → r.refusal ∷ take r.len out ≡ given f ws
unfolding given accepted
call-given zero ws n before r out g = rw (g.refusal, gives-result 0 ws n before r out g g.refusal)
call-given (suc f) ws n before r out g = rw (g.refusal, g.len)

number-given : (f value refusal number : ℕ) → Says f value 0 refusal number → given refusal (number ∷ []) ≡ given f (value ∷ [])
unfolding given accepted
number-given zero value refusal number g = rw (g.number, g.says)
number-given (suc f) value refusal number g = rw g.number

-- there is room, so that the other faults alone are left
pub then-last : (f g : ℕ) → g ≡ 0 → (f then g) ≡ f
unfolding ◌then◌
then-last zero g e = e
then-last (suc f) g e = refl

roomy : (f g : ℕ) (ws : List ℕ) (n : ℕ) (before : List ℕ) (r : Answer) (out : List ℕ) → g ≡ 0 → Gives (f then g) ws n before r out → r.refusal ∷ take r.len out ≡ given f ws
roomy f g ws n before r out z c = rw (then-last f g z) at (call-given (f then g) ws n before r out c)

pub short-both : (n room room₂ : ℕ) → n ≤ room → n ≤ room₂ → short2 n room room₂ ≡ 0
unfolding short2
short-both n room room₂ h k = then-none _ _ (short_none n room h) ∙ short_none n room₂ k

call-answers : (a : Asked) (m : Made) → length (result_of a) ≤ max_words → Meets a m → Room a m → answered a m ≡ given (refusal_of a) (result_of a)
unfolding refusal_of result_of
call-answers (union left right) m l c h = roomy _ _ _ 0 _ _ _ (sym (room_fits max_words _ _ h l)) c
call-answers (intersect left right) m l c h = roomy _ _ _ 0 _ _ _ (sym (room_fits max_words _ _ h l)) c
call-answers (difference left right) m l c h = roomy _ _ _ 0 _ _ _ (sym (room_fits max_words _ _ h l)) c
call-answers (decode block) m l c h = roomy _ _ _ 0 _ _ _ (short_none _ _ h) (rw (← then-assoc _ _ _) at c)
call-answers (rank runs directory ps) m l c h = roomy _ _ _ 0 _ _ _ (short_none _ _ h) c
call-answers (select runs directory ks) m l c h = roomy _ _ _ 0 _ _ _ (short_none _ _ h) c
call-answers (from_packed_bits bits) m l c h = roomy _ _ _ 0 _ _ _ (sym (room_fits max_words _ _ h l)) c
call-answers (position bits directory rows) m l c h = roomy _ _ _ 0 _ _ _ (short_none _ _ h) c
call-answers (total bits len directory) m l c h = number-given _ _ _ _ c
call-answers (filter index steps) m l c h = roomy _ _ _ _ _ _ _ (short-both _ _ _ h.0 h.1) c.first
call-answers (program index text) m l c h = call-given _ (report index text) 0 _ _ _ c ∙ ap (λ (f : ℕ). given f (report index text)) (short_none _ _ h)

-- ---- the rows

computed : EachRow (λ r. given (refusal_of r.asked) (result_of r.asked) ≡ r.answers) table
unfolding given refusal_of result_of sample accepted when ◌then◌ too_long from_le number_at to_le count_below same other_directory bit_at set_below cut_to counts run_fault runs_fault odd own_fault fault fault2 merge combine read_fault block_fault words_at block_runs block_words word_bytes block_bytes list_of directory_from run_directory run_select directory_fault bit_directory rank_fault position_of presence_directory position_fault block_at head_fault entries_fault entry_list entries words_of entry_bytes entries_bytes index_bytes step keep_from keep kinds_fault filter_fault report report_fault outcome kept_text number_line run_line run_lines decimal digits_before text_fault text_steps lines_fault lines_steps line_kind line_value line_length word_kind word_length starts value_good value_of digit_count number_from
computed = (refl, (refl, (refl, (refl, (refl, (refl, (refl, (refl, (refl, (refl, (refl, (refl, (refl, (refl, (refl, tt)))))))))))))))

short-results : EachRow (λ r. leb (length (result_of r.asked)) 64 ≡ true) table
unfolding result_of sample when ◌then◌ too_long from_le number_at to_le count_below same bit_at set_below cut_to counts merge combine words_at block_runs block_words word_bytes block_bytes list_of run_select position_of block_at entry_list entries words_of entry_bytes entries_bytes index_bytes step keep_from keep kinds_fault filter_fault odd head_fault entries_fault read_fault block_fault run_fault report report_fault outcome accepted kept_text number_line run_line run_lines decimal digits_before text_fault text_steps lines_fault lines_steps line_kind line_value line_length word_kind word_length starts value_good value_of digit_count number_from
short-results = (refl, (refl, (refl, (refl, (refl, (refl, (refl, (refl, (refl, (refl, (refl, (refl, (refl, (refl, (refl, tt)))))))))))))))

each : (rows : List Row)
    → EachRow (λ r. given (refusal_of r.asked) (result_of r.asked) ≡ r.answers) rows
    → EachRow (λ r. leb (length (result_of r.asked)) 64 ≡ true) rows
    → EachRow (λ r. (m : Made) → Meets r.asked m → Room r.asked m → answered r.asked m ≡ r.answers) rows
each [] p q = tt
each (r ∷ rows) p q =
    (λ m c h. call-answers r.asked m (omega (arith, leb-true (length (result_of r.asked)) 64 q.0)) c h ∙ p.0, each rows p.1 q.1)

sample-size : length sample_bytes ≡ 84
unfolding sample to_le word_bytes block_bytes entry_bytes entries_bytes index_bytes
sample-size = refl

pub table-calls : Statement
table-calls = record { rows = each table computed short-results; number = refl; bytes = sample-size }
