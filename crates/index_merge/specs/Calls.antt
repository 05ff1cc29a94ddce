-- What `merge` gives, for every input (docs/REQUESTS.md, job 1).
use Rattle.std.specs.Prelude.{cond, List, [], ◌∷◌, ℕ, ltb, length}
use Rattle.fields.specs.Refusal.{◌then◌}
use Rattle.fields.specs.Answers.{Gives}
use Rattle.fields.specs.declared.outcome.Answer.{Answer}
use Rattle.fields.specs.Limits.{too_long, no_room, max_bytes}
use Rattle.boundary.specs.Merge.{combine, either}
use Rattle.index.specs.Index.{Entry, entry, bytes_fault, entries, index_bytes}

-- "all values of both, rising, and for a value in both the union of its rows"
unfoldable pub merged : List Entry → List Entry → List Entry
merged [] fs = fs
merged (e ∷ es) [] = e ∷ es
merged (e ∷ es) (f ∷ fs) =
    cond (ltb e.value f.value) (e ∷ merged es (f ∷ fs))
    (cond (ltb f.value e.value) (f ∷ merged (e ∷ es) fs) (entry e.value (combine either e.words f.words) ∷ merged es fs))

-- "Both inputs are judged as index reading judges them: 1 for either, then the faults of the first, then those of the second"
unfoldable pub merge_fault : List ℕ → List ℕ → ℕ
merge_fault s t = too_long max_bytes s then too_long max_bytes t then bytes_fault s then bytes_fault t

-- "The output is exact index bytes"
abbrev pub merged_bytes : List ℕ → List ℕ → List ℕ
merged_bytes s t = index_bytes (merged (entries s) (entries t))

-- `merge`
abbrev pub Merged : List ℕ → List ℕ → List ℕ → Answer → List ℕ → Type 0
Merged s t before r out = Gives (merge_fault s t then no_room max_bytes (length (merged_bytes s t)) (length before)) (merged_bytes s t) 0 before r out
