-- Refusal numbers (document 01, "Input refusals", "State refusals"); 0 is none.
--   1 a length above its limit                 6 an odd number of words where pairs are due
--   2 bytes end inside a field or block        7 row 2^64 - 1 given to `from_rows`
--   3 a run with end <= start                  8 a step kind outside 1 to 4
--   4 a start not above the previous end       9 a directory that is not the one of its data
--   5 an index value not above the previous   10 an output or scratch shorter than needed, or a result past its length limit
-- and that of REQUESTS.md, job 5:
--  11 "a filter naming a missing value in any step"
use Rattle.std.specs.Prelude.{◌≡◌, refl, Bool, true, false, ℕ, zero, suc, Result, Ok, Err}
use Rattle.fields.specs.declared.outcome.Refusal.{Refusal}
use Rattle.fields.specs.declared.outcome.Refusal.TheVariants.{TooLong, CutShort, EmptyRun, RunOrder, ValueOrder, OddWords, NoRow, StepKind, OtherDirectory, NoRoom, MissingValue}

-- the numbers above
abbrev pub refusal_number : Refusal → ℕ
refusal_number TooLong = 1
refusal_number CutShort = 2
refusal_number EmptyRun = 3
refusal_number RunOrder = 4
refusal_number ValueOrder = 5
refusal_number OddWords = 6
refusal_number NoRow = 7
refusal_number StepKind = 8
refusal_number OtherDirectory = 9
refusal_number NoRoom = 10
refusal_number MissingValue = 11

-- the number of a call's refusal, or 0
abbrev pub refusal_of : {A : Type 0} → Result A Refusal → ℕ
refusal_of (Ok a) = 0
refusal_of (Err e) = refusal_number e

-- the refusal f where the test finds its fault
unfoldable pub when : Bool → ℕ → ℕ
when true f = f
when false f = 0

-- "Order": the first refusal in the order of judging counts
infixr 5 ◌then◌
unfoldable pub ◌then◌ : ℕ → ℕ → ℕ
zero then g = g
suc f then g = suc f

example : (when false 1 then when true 4 then when true 2) ≡ 4
unfolding when ◌then◌
example = refl
