-- What the contracts of private functions cite. No open contract needs it.
use Rattle.std.specs.Prelude.{cond, ◌≡◌, List, [], ℕ, ◌+◌, ◌*◌, ◌%◌, ◌≤◌, eqb, length, take, drop, get_or}
use Rattle.fields.specs.Refusal.{when, ◌then◌}
use Rattle.fields.specs.Answers.{zeroed}
use Rattle.fields.specs.declared.outcome.Answer.{Answer}
use Rattle.run_list.specs.Runs.{odd}
use Rattle.boundary.specs.Merge.{combine}
use Rattle.index.specs.Index.{Entry, entries, words_of}
use Rattle.bitmap_index.specs.declared.steps.Steps.{Steps}
use Rattle.bitmap_index.specs.declared.steps.Steps.TheVariants.{Pairs, Values}
use Rattle.bitmap_index.specs.Filter.{step, named, kinds_fault, missing_fault, keep, need, Kept, take_then_ands}

-- the first fault of steps, but for their length limit
abbrev pub steps_fault : List ℕ → ℕ
steps_fault steps = when (odd steps) 6 then kinds_fault steps

-- the steps that the words of a call are: pairs of kind and value, or values to be taken and then to be intersected
abbrev pub steps_of : Steps → List ℕ
steps_of (Pairs words) = words.now
steps_of (Values values) = take_then_ands values.now

-- the fault of their values: a filter may name no missing one
abbrev pub value_fault : List Entry → Steps → ℕ
value_fault es (Pairs words) = missing_fault es (named words.now)
value_fault es (Values values) = 0

-- what is kept by the steps of a call, over an index that is not refused
abbrev pub StepsKept : List ℕ → Steps → List ℕ → List ℕ → Answer → List ℕ → List ℕ → Type 0
StepsKept s steps before scratch r out scratch' = Kept (value_fault (entries s) steps) s (steps_of steps) before scratch r out scratch'

-- the runs ks after step i
abbrev pub stepped : List Entry → List ℕ → ℕ → List ℕ → List ℕ
stepped es steps i ks = combine (step (get_or steps (2 * i) 0)) ks (words_of es (get_or steps (2 * i + 1) 0))

-- the runs after the first step of an odd number n of steps, and before that of an even number
abbrev pub first_kept : List Entry → List ℕ → ℕ → List ℕ
first_kept es steps n = cond (eqb (n % 2) 0) [] (stepped es steps 0 [])

-- a list starts with them, and both lists have the needed room
pub record FirstStep (s steps : List ℕ) (n first : ℕ) (out scratch : List ℕ) : Type 0 where
  pub few : n ≤ 4096
  pub number : 2 * n ≡ length steps
  pub fits : first ≤ length out
  pub front : take first out ≡ first_kept (entries s) steps n
  pub room : need (entries s) ≤ length out
  pub room₂ : need (entries s) ≤ length scratch

-- the output starts with the kept runs, and in both lists the words past the need are as they were
pub record Ran (s steps before scratch : List ℕ) (n : ℕ) (out scratch' : List ℕ) : Type 0 where
  pub number : n ≡ length (keep (entries s) steps)
  pub front : take n out ≡ keep (entries s) steps
  pub size : length out ≡ length before
  pub size₂ : length scratch' ≡ length scratch
  pub later : drop (need (entries s)) out ≡ drop (need (entries s)) before
  pub later₂ : drop (need (entries s)) scratch' ≡ drop (need (entries s)) scratch

-- zeros after len words of the output and in the scratch, up to a place
pub record Cleared (len room : ℕ) (out scratch out' scratch' : List ℕ) : Type 0 where
  pub written : out' ≡ zeroed len room out
  pub wiped : scratch' ≡ zeroed 0 room scratch
