-- The answers that the benchmark asks for.
use Rattle.std.specs.Prelude.{List, map, ℕ, ◌+◌, ◌*◌, length}
use Rattle.fields.specs.Counting.{bit}
use Rattle.fields.specs.Refusal.{◌then◌}
use Rattle.fields.specs.Answers.{short, Gives}
use Rattle.fields.specs.declared.outcome.Answer.{Answer}
use Rattle.run_list.specs.Runs.{has, fault}
use Rattle.run_list.specs.Places.{begun}

-- both parts of a row's place in one word
abbrev pub place_word : List ℕ → ℕ → ℕ
place_word ws r = 2 * begun ws r + bit (has ws r)

abbrev pub SearchesEach : List ℕ → List ℕ → List ℕ → Answer → List ℕ → Type 0
SearchesEach runs rows before r out = Gives (fault runs then short (length rows) (length before)) (map (place_word runs) rows) 0 before r out
