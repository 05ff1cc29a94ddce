-- Filters (document 01, "Filters"): "A filter is a word list: kind, value, kind, value. Kinds: 1 take, 2 and, 3 or, 4 without."
use Rattle.std.specs.Prelude.{Bool, false, not, cond, ◌&&◌, ◌||◌, List, [], ◌∷◌, ℕ, ◌*◌, leb, eqb, length}
use Rattle.fields.specs.Refusal.{when, ◌then◌}
use Rattle.fields.specs.Answers.{short2, Gives2}
use Rattle.fields.specs.declared.outcome.Answer.{Answer}
use Rattle.fields.specs.Limits.{too_long, max_bytes, max_steps}
use Rattle.run_list.specs.Runs.{odd}
use Rattle.boundary.specs.Merge.{combine}
use Rattle.index.specs.Index.{Entry, bytes_fault, entries, all_runs, words_of, present}
use Rattle.bitmap_index.specs.declared.steps.StepKind.{StepKind}
use Rattle.bitmap_index.specs.declared.steps.StepKind.TheVariants.{Take, And, Or, Without}

-- "Kinds: 1 take, 2 and, 3 or, 4 without"
abbrev pub kind_number : StepKind → ℕ
kind_number Take = 1
kind_number And = 2
kind_number Or = 3
kind_number Without = 4

-- "With V the rows of the named value, K becomes V; K and V; K or V; K not V", for one row: k says whether it is in K, v whether it is in V
unfoldable pub step : ℕ → Bool → Bool → Bool
step kind k v = cond (eqb kind 1) v (cond (eqb kind 2) (k && v) (cond (eqb kind 3) (k || v) (k && not v)))

-- the runs of K after the steps. "A missing value has no rows"
unfoldable pub keep_from : List Entry → List ℕ → List ℕ → List ℕ
unfolding step
keep_from es ks [] = ks
keep_from es ks (kind ∷ []) = ks
keep_from es ks (kind ∷ v ∷ steps) = keep_from es (combine (step kind) ks (words_of es v)) steps

-- "The kept rows K start empty"
unfoldable pub keep : List Entry → List ℕ → List ℕ
unfolding keep_from
keep es steps = keep_from es [] steps

-- "To a set of values the filter says yes or no by the same steps: start with no, and read 'row in V' as 'value in the set'"
unfoldable pub says_from : Bool → List ℕ → (ℕ → Bool) → Bool
unfolding step
says_from said [] set = said
says_from said (kind ∷ []) set = said
says_from said (kind ∷ v ∷ steps) set = says_from (step kind said (set v)) steps set

unfoldable pub says : List ℕ → (ℕ → Bool) → Bool
unfolding says_from
says steps set = says_from false steps set

-- the values that steps name
unfoldable pub named : List ℕ → List ℕ
named [] = []
named (kind ∷ []) = []
named (kind ∷ v ∷ steps) = v ∷ named steps

-- ---- refusals

-- "8 a step kind outside 1 to 4"
abbrev pub unknown_kind : ℕ → Bool
unknown_kind kind = not (leb 1 kind && leb kind 4)

unfoldable pub kinds_fault : List ℕ → ℕ
kinds_fault [] = 0
kinds_fault (kind ∷ []) = 0
kinds_fault (kind ∷ v ∷ steps) = when (unknown_kind kind) 8 then kinds_fault steps

-- "A filter naming a missing value in any step is refused 11" (REQUESTS.md, job 5), of the values that its steps name. "An entry with no runs is present"
unfoldable pub missing_fault : List Entry → List ℕ → ℕ
unfolding present
missing_fault es [] = 0
missing_fault es (v ∷ vs) = when (not (present es v)) 11 then missing_fault es vs

-- 1 for the index, then for the steps; then the faults of the index, then those of the steps: 6 before 8; and 11, "after 8 and before 10"
unfoldable pub filter_fault : List ℕ → List ℕ → ℕ
unfolding too_long odd kinds_fault missing_fault named
filter_fault s steps =
    too_long max_bytes s
    then too_long (2 * max_steps) steps
    then bytes_fault s
    then when (odd steps) 6
    then kinds_fault steps
    then missing_fault (entries s) (named steps)

-- "Let R be the runs of all entries together. It needs 2R words in each list"
unfoldable pub need : List Entry → ℕ
unfolding all_runs
need es = 2 * all_runs es

-- ---- the calls. "Accepted, the output holds the result, then zeros up to word 2R; the scratch holds zeros up to word 2R; later words are untouched"

-- what is kept by steps over an index whose refusal, but for the space, is f
abbrev pub Kept : ℕ → List ℕ → List ℕ → List ℕ → List ℕ → Answer → List ℕ → List ℕ → Type 0
Kept f s steps before scratch r out scratch' =
    let es = entries s in
    Gives2 (f then short2 (need es) (length before) (length scratch)) (keep es steps) [] (need es) before scratch r out scratch'

-- `filter`
abbrev pub Filtered : List ℕ → List ℕ → List ℕ → List ℕ → Answer → List ℕ → List ℕ → Type 0
Filtered s steps before scratch r out scratch' = Kept (filter_fault s steps) s steps before scratch r out scratch'

-- "`intersect_values` equals take then ands; with no values it is empty"
unfoldable pub ands : List ℕ → List ℕ
ands [] = []
ands (v ∷ vs) = 2 ∷ v ∷ ands vs

unfoldable pub take_then_ands : List ℕ → List ℕ
unfolding ands
take_then_ands [] = []
take_then_ands (v ∷ vs) = 1 ∷ v ∷ ands vs

unfoldable pub values_fault : List ℕ → List ℕ → ℕ
unfolding too_long
values_fault s values = too_long max_bytes s then too_long max_steps values then bytes_fault s

-- `intersect_values`
abbrev pub Intersected : List ℕ → List ℕ → List ℕ → List ℕ → Answer → List ℕ → List ℕ → Type 0
Intersected s values before scratch r out scratch' = Kept (values_fault s values) s (take_then_ands values) before scratch r out scratch'
