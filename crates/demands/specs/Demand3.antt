-- Demand 3, as one statement about the definitions that the contracts of `filter`, `from_runs`, `rank` and `select` cite: proved in proofs/Theorem.antt. Over
-- which indexes filters are run and compared is said by REQUESTS.md, job 5; over others they are refused 11 (`filter-missing`, bitmap_index, MissingLaws.antt).
-- A set of values is a test of values, ℕ → Bool: what says yes or no to each value.
use Rattle.std.specs.Prelude.{◌≡◌, ◌↔◌, Bool, true, List, [], ◌∷◌, map, ℕ, ◌+◌, ◌*◌, ◌/◌, ◌^◌, ◌≤◌, ◌<◌, length, take}
use Rattle.fields.specs.Bytes.{Bytes}
use Rattle.fields.specs.Counting.{count_below}
use Rattle.fields.specs.Answers.{none, short}
use Rattle.fields.specs.declared.outcome.Answer.{Answer}
use Rattle.run_list.specs.Rising.{All}
use Rattle.run_list.specs.Runs.{has}
use Rattle.index.specs.Index.{index_fault, entries, all_runs, words_of, present}
use Rattle.bitmap_index.specs.Filter.{says, named, Filtered}
use Rattle.run_rank.specs.RunRanks.{Directory, Ranks, Selects}
use Rattle.run_rank.specs.Meaning.{CountsRows}

-- "any two lists of at most 4,096 steps in any mix (take, and, or, without, each naming a value; an empty list too)"
abbrev pub Mix : List ℕ → Type 0
Mix [] = Unit {0}
Mix (kind ∷ []) = ⊥
Mix (kind ∷ value ∷ steps) = (1 ≤ kind) × (kind ≤ 4) × (value < 2 ^ 64) × Mix steps

pub record Filter (steps : List ℕ) : Type 0 where
  pub few : length steps ≤ 2 * 4096
  pub mix : Mix steps

-- "An index is accepted when its length is within the limit and its reading meets none of the faults 2 to 5"
pub record Accepted (index : List ℕ) : Type 0 where
  pub bytes : Bytes index
  pub read : index_fault index ≡ 0

-- an index that lists all values which the steps name: each has an entry. "An entry with no runs is present" (REQUESTS.md, job 5)
abbrev pub Lists : List ℕ → List ℕ → Type 0
Lists index steps = All (λ value. present (entries index) value ≡ true) (named steps)

-- "The values that list a row are those whose entry has a run with that row in it; for a row in no entry that set is empty"
abbrev pub listing : List ℕ → ℕ → ℕ → Bool
listing index row value = has (words_of (entries index) value) row

-- ---- the calls

-- the filter, "run over any accepted index, each with two lists that have space for all runs of that index": R runs, 2R words
pub record Run (index steps : List ℕ) : Type 0 where
  pub output : List ℕ
  pub scratch : List ℕ
  pub space : 2 * all_runs (entries index) ≤ length output
  pub space₂ : 2 * all_runs (entries index) ≤ length scratch
  pub answer : Answer
  pub output' : List ℕ
  pub scratch' : List ℕ
  pub call : Filtered index steps output scratch answer output' scratch'

-- "What a filter leaves is its output up to the returned length"; "it leaves a row when one of these runs holds it": `has (left run) row`
abbrev pub left : {index steps : List ℕ} → Run index steps → List ℕ
left run = take run.answer.len run.output'

-- building the directory from the runs left
pub record Built (runs : List ℕ) : Type 0 where
  pub output : List ℕ
  pub answer : Answer
  pub output' : List ℕ
  pub call : Directory runs output answer output'

abbrev pub directory_of : {runs : List ℕ} → Built runs → List ℕ
directory_of built = take built.answer.len built.output'

-- ---- what is claimed of one filter

-- "the number of kept rows below p"
abbrev pub kept_below : List ℕ → ℕ → ℕ
kept_below runs p = count_below (has runs) p

-- "the count of kept rows": each row is below 2^64 - 1
abbrev pub kept : List ℕ → ℕ
kept runs = kept_below runs none

-- "For every k, select gives the kept row with exactly k kept ones below it, and none from the count of kept rows on"
pub record Selected (runs : List ℕ) (k row : ℕ) : Type 0 where
  pub listed : k < kept runs → (has runs row ≡ true) × (kept_below runs row ≡ k)
  pub only : k < kept runs → (other : ℕ) → has runs other ≡ true → kept_below runs other ≡ k → other ≡ row
  pub past : kept runs ≤ k → row ≡ none

-- P of each pair of two lists, which are equally long
abbrev pub Each : (ℕ → ℕ → Type 0) → List ℕ → List ℕ → Type 0
Each P [] [] = Unit {0}
Each P [] (y ∷ ys) = ⊥
Each P (x ∷ xs) [] = ⊥
Each P (x ∷ xs) (y ∷ ys) = P x y × Each P xs ys

-- "Each leaves a row exactly when it says yes to the set of values that list that row." "What either leaves goes unchanged to rank and select, with the
-- directory built from it." "For every position p, rank gives the number of kept rows below p." These three "are refused only with 10, and only for an
-- output shorter than needed": `short need room` is 10 where room is below need, and else 0. The directory has "one word more than there are runs, the last
-- being the total" (REQUESTS.md, job 4), `kept runs`
pub record Leaves (index steps runs : List ℕ) : Type 0 where
  pub rows : (row : ℕ) → has runs row ≡ says steps (listing index row)
  pub built : (b : Built runs) → b.answer.refusal ≡ short (length runs / 2 + 1) (length b.output)
  pub directory : (b : Built runs) → b.answer.refusal ≡ 0 → CountsRows runs (directory_of b)
  pub ranked : (b : Built runs) → b.answer.refusal ≡ 0 → (positions before after : List ℕ) (r : Answer) → Ranks runs (directory_of b) positions before r after
      → (r.refusal ≡ short (length positions) (length before)) × (r.refusal ≡ 0 → take r.len after ≡ map (kept_below runs) positions)
  pub selected : (b : Built runs) → b.answer.refusal ≡ 0 → (ks before after : List ℕ) (r : Answer) → Selects runs (directory_of b) ks before r after
      → (r.refusal ≡ short (length ks) (length before)) × (r.refusal ≡ 0 → Each (Selected runs) ks (take r.len after))

-- "over the accepted indexes that list all values named in either, and neither is refused there": one filter is not refused over those that list the values
-- that it names itself, whatever the other names
abbrev pub Serves : List ℕ → Type 0
Serves steps = (index : List ℕ) → Accepted index → Lists index steps → (run : Run index steps) → (run.answer.refusal ≡ 0) × Leaves index steps (left run)

-- "The same runs are the same returned length and the same words up to it"
abbrev pub SameRuns : {index A B : List ℕ} → Run index A → Run index B → Type 0
SameRuns a b = (a.answer.len ≡ b.answer.len) × (left a ≡ left b)

-- ---- the demand
pub record Demand3 (A B : List ℕ) : Type 0 where
  pub first : Serves A
  pub second : Serves B
  -- "A and B leave the same runs on every accepted index exactly when they say the same to every set of values", "run and compared over the accepted indexes
  -- that list all values named in either"
  pub agree :
      ((index : List ℕ) → Accepted index → Lists index A → Lists index B → (a : Run index A) (b : Run index B) → SameRuns a b)
      ↔ ((set : ℕ → Bool) → says A set ≡ says B set)

-- "Let filters A and B be any two lists of at most 4,096 steps"
abbrev pub Statement : Type 0
Statement = (A B : List ℕ) → Filter A → Filter B → Demand3 A B
