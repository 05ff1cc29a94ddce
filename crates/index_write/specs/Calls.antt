-- What each call gives, for every input.
use Rattle.std.specs.Prelude.{cond, List, [], ◌∷◌, ℕ, ltb, eqb, length}
use Rattle.fields.specs.Refusal.{◌then◌}
use Rattle.fields.specs.Answers.{short, Gives}
use Rattle.fields.specs.declared.outcome.Answer.{Answer}
use Rattle.fields.specs.Limits.{too_long, no_room, max_words, max_bytes}
use Rattle.run_list.specs.Runs.{own_fault}
use Rattle.boundary.specs.Merge.{combine, either}
use Rattle.index.specs.Index.{Entry, entry, bytes_fault, index_fault, entries, index_bytes}

-- `encode`
abbrev pub Encoded : List ℕ → List ℕ → Answer → List ℕ → Type 0
Encoded s before r out = Gives (index_fault s then short (length (index_bytes (entries s))) (length before)) (index_bytes (entries s)) 0 before r out

-- "A known value gets the union. A new value gets an entry, even with no runs"
unfoldable pub inserted : ℕ → List ℕ → List Entry → List Entry
inserted v ws [] = entry v ws ∷ []
inserted v ws (e ∷ es) =
    cond (ltb v e.value) (entry v ws ∷ e ∷ es)
    (cond (eqb v e.value) (entry v (combine either ws e.words) ∷ es) (e ∷ inserted v ws es))

-- "1 for each argument in turn, then each argument's own faults front to back": the index, then the runs
unfoldable pub insert_fault : List ℕ → List ℕ → ℕ
insert_fault s ws = too_long max_bytes s then too_long max_words ws then bytes_fault s then own_fault ws

-- `insert`
abbrev pub Inserted : List ℕ → ℕ → List ℕ → List ℕ → Answer → List ℕ → Type 0
Inserted s v ws before r out =
    Gives (insert_fault s ws then no_room max_bytes (length (index_bytes (inserted v ws (entries s)))) (length before)) (index_bytes (inserted v ws (entries s))) 0 before r out
