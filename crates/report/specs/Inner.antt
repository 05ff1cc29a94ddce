-- What the private functions' contracts cite. No open contract needs it.
use Rattle.std.specs.Prelude.{◌≡◌, true, List, ℕ, ◌+◌, ◌≤◌, length, drop, Result, Ok, Err}
use Rattle.std.proofs.lemmas.List.Edits.{sets}
use Rattle.fields.specs.Answers.{StoredAt}
use Rattle.fields.specs.Refusal.{refusal_number}
use Rattle.fields.specs.declared.outcome.Refusal.{Refusal}
use Rattle.run_list.specs.declared.list.RunList.{RunList}
use Rattle.index.specs.Index.{entries}
use Rattle.bitmap_index.specs.Filter.{keep}
use Rattle.report.specs.declared.print.Page.{Page}
use Rattle.report.specs.Lines.{word_kind, word_length, after_word, digit_count, value_of, value_good, line_kind, line_value, line_length, text_fault, text_steps}
use Rattle.report.specs.Report.{refused_word, number_line, kept_text, report_fault}

-- the word that a text starts with, as its kind, and the text after it
pub record SplitsWord (text : List ℕ) (kind : ℕ) (rest : List ℕ) : Type 0 where
  pub is : kind ≡ word_kind text
  pub some : kind ≡ 0 → ⊥
  pub onward : rest ≡ after_word kind text
  pub size : length rest + word_length kind ≡ length text

-- the value that a text starts with, and the text after its line feed
pub record SplitsValue (text : List ℕ) (value : ℕ) (rest : List ℕ) : Type 0 where
  pub good : value_good text ≡ true
  pub value_is : value ≡ value_of text
  pub onward : rest ≡ drop (digit_count text + 1) text
  pub size : length rest + digit_count text + 1 ≡ length text

-- the line that a text starts with, and the text after it
pub record SplitsLine (text : List ℕ) (kind value : ℕ) (rest : List ℕ) : Type 0 where
  pub is : kind ≡ line_kind text
  pub some : kind ≡ 0 → ⊥
  pub value_is : value ≡ line_value text
  pub onward : rest ≡ drop (line_length text) text
  pub size : length rest + line_length text ≡ length text

-- a text has lines alone, and their steps are stored from the front
pub record StepsRead (text before : List ℕ) (len : ℕ) (out : List ℕ) : Type 0 where
  pub fault : text_fault text ≡ 0
  pub number : len ≡ length (text_steps text)
  pub few : len ≤ length text
  pub written : out ≡ sets before 0 (text_steps text)

-- bytes are put on a page: those for which there is room are stored, all are counted
pub record Puts (ws : List ℕ) (before after : Page) : Type 0 where
  pub stored : StoredAt ws before.bytes.now before.len after.len after.bytes.now
  pub same : after.bytes.ghost_name ≡ before.bytes.ghost_name

-- an index and a filter are not refused, and these are the runs that are kept
pub record Kept (index text runs : List ℕ) : Type 0 where
  pub accepted : report_fault index text ≡ 0
  pub are : runs ≡ keep (entries index) (text_steps text)

-- an index and a filter have this refusal
pub record Refused (index text : List ℕ) (refusal : Refusal) : Type 0 where
  pub is : refusal_number refusal ≡ report_fault index text

-- what is printed of kept runs, or of a refusal: its number
unfoldable pub outcome_text : Result RunList Refusal → List ℕ
unfolding number_line kept_text
outcome_text (Ok runs) = kept_text runs.words.now
outcome_text (Err refusal) = number_line refused_word (refusal_number refusal)
