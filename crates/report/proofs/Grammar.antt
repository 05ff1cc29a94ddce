-- "Filter lines are `take`, `and`, `or` or `without`, a comma, a value of 1 to 20 digits below 2^64 (leading zeros allowed), a line feed; another line, or a
-- last one without its line feed, is 8": a filter text is accepted exactly when it is a sequence of well-formed lines, and its steps are theirs; all other
-- texts are 8.
use mathlib.Core.Path.{◌≡◌, sym, ◌∙◌}
use mathlib.Core.Logic.{◌⊎◌}
use mathlib.Core.List.{List}
use Prim.Native.Nat.{ℕ}
use native.Mathlib.Omega.{arith}
use lib.ListN.{length}
use Rattle.report.specs.Lines.{text_fault, text_steps}
use Rattle.report.specs.Grammar.{FilterLine, AllWellFormed, lines_text, steps_of, Written}
use Rattle.report.proofs.GrammarWrite.{lines_none, lines_text-steps, lines_same}
use Rattle.report.proofs.GrammarRead.{lines-read, lines-fault}

-- the text of well-formed lines is accepted, and its steps are theirs
pub text-written : (ls : List FilterLine) → AllWellFormed ls → (text_fault (lines_text ls) ≡ 0) × (text_steps (lines_text ls) ≡ steps_of ls)
unfolding text_fault text_steps
text-written ls w = (lines_none ls w (length (lines_text ls)) (omega arith), lines_text-steps ls w (length (lines_text ls)) (omega arith))

-- an accepted text is that of well-formed lines
pub text-lines : (text : List ℕ) → text_fault text ≡ 0 → Written text
unfolding text_fault
text-lines text z = lines-read (length text) text (omega arith) z

-- the same of a text that is known to be of such lines
pub text-steps : (text : List ℕ) (w : Written text) → (text_fault text ≡ 0) × (text_steps text ≡ steps_of w.lines)
text-steps text w = rw w.is at (text-written w.lines w.good)

-- it is of no other lines
pub text-unique : (text : List ℕ) (v w : Written text) → v.lines ≡ w.lines
text-unique text v w = lines_same v.lines w.lines v.good w.good (v.is ∙ sym w.is)

-- a text is accepted, or refused with 8
pub text-fault : (text : List ℕ) → (text_fault text ≡ 0) ⊎ (text_fault text ≡ 8)
unfolding text_fault
text-fault text = lines-fault (length text) text
