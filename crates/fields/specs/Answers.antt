-- The shape of all answers (document 01, "Order"): "A refusal returns its number and length 0 and changes no buffer. Accepted calls return 0 and the
-- words or bytes of the result (cleared zeros not counted), or the counts or yes or no where nothing is written; words past those described keep
-- their contents."
use Rattle.std.specs.Prelude.{◌≡◌, refl, List, [], ◌∷◌, ◌++◌, cond, ℕ, zero, suc, ◌+◌, ◌-◌, eqb, ltb, length, drop, replicate, Option, Some, None, Result, Ok, Err}
use Rattle.std.proofs.lemmas.List.Edits.{sets}
use Rattle.fields.specs.Refusal.{when, ◌then◌, refusal_number}
use Rattle.fields.specs.declared.outcome.Refusal.{Refusal}
use Rattle.fields.specs.declared.outcome.Answer.{Answer}
use Rattle.fields.specs.declared.outcome.Number.{Number}

-- "A refusal returns its number and length 0", "Accepted calls return 0": a call's outcome as its answer
abbrev pub answer_of : Result ℕ Refusal → Answer
answer_of (Ok n) = record { refusal = 0; len = n }
answer_of (Err e) = record { refusal = refusal_number e; len = 0 }

-- the same of a call that gives a number
abbrev pub number_of : Result ℕ Refusal → Number
number_of (Ok n) = record { refusal = 0; number = n }
number_of (Err e) = record { refusal = refusal_number e; number = 0 }

-- a number that may be missing, as a word: "2^64 - 1 is written for none"
abbrev pub word_of : Option ℕ → ℕ
word_of None = 18446744073709551615
word_of (Some n) = n

-- a word as a number that may be missing
abbrev pub option_of : ℕ → Option ℕ
option_of n = cond (eqb n 18446744073709551615) None (Some n)

-- the same of a call that gives a number, or none
abbrev pub word_number_of : Result (Option ℕ) Refusal → Number
word_number_of (Ok o) = record { refusal = 0; number = word_of o }
word_number_of (Err e) = record { refusal = refusal_number e; number = 0 }

-- one of two: the first where there is no refusal, the second where there is one
unfoldable pub accepted {ℓ} : {A : Type ℓ} → ℕ → A → A → A
accepted zero a b = a
accepted (suc f) a b = b

-- a result, then zeros up to place n
unfoldable pub padded : ℕ → List ℕ → List ℕ
padded n ws = ws ++ replicate (n - length ws) 0

-- the elements ws, then what stood after their places
unfoldable pub over : List ℕ → List ℕ → List ℕ
over ws before = ws ++ drop (length ws) before

-- an output after a call with the refusal f or the result ws, cleared up to place n
unfoldable pub after : ℕ → List ℕ → ℕ → List ℕ → List ℕ
unfolding accepted padded over
after f ws n before = accepted f (over (padded n ws) before) before

-- zeros from a place up to another, as far as there are elements
unfoldable pub zeroed : ℕ → ℕ → List ℕ → List ℕ
zeroed from to l = sets l from (replicate (to - from) 0)

-- "2^64 - 1 is written for none; it is never a row"
abbrev pub none : ℕ
none = 18446744073709551615

-- 10 after all other refusals, where an output with room places has fewer than the call needs
unfoldable pub short : ℕ → ℕ → ℕ
short need room = when (ltb room need) 10

-- the same of two outputs, the first before the second
unfoldable pub short2 : ℕ → ℕ → ℕ → ℕ
unfolding short
short2 need room room₂ = short need room then short need room₂

-- what a call that writes gives: its answer and its output, from its refusal f, its result ws, the place n that it clears up to, and the output before
pub record Gives (f : ℕ) (ws : List ℕ) (n : ℕ) (before : List ℕ) (r : Answer) (out : List ℕ) : Type 0 where
  pub refusal : r.refusal ≡ f
  pub len : r.len ≡ accepted f (length ws) 0
  pub output : out ≡ after f ws n before

-- what a call gives whose only refusal is for its room: it writes ws, or is refused with 10. "Where no need is named above, the need is the result"
abbrev pub Writes : List ℕ → List ℕ → Answer → List ℕ → Type 0
Writes ws before r out = Gives (short (length ws) (length before)) ws 0 before r out

-- what a call with two outputs gives: the same answer, and both outputs, from the results ws and ws₂, each cleared up to place n
pub record Gives2 (f : ℕ) (ws ws₂ : List ℕ) (n : ℕ) (before before₂ : List ℕ) (r : Answer) (out out₂ : List ℕ) : Type 0 where
  pub first : Gives f ws n before r out
  pub second : out₂ ≡ after f ws₂ n before₂

-- an inner function counts the elements ws, and stores them from the front as far as there is room
pub record Stored (ws before : List ℕ) (n : ℕ) (out : List ℕ) : Type 0 where
  pub number : n ≡ length ws
  pub written : out ≡ sets before 0 ws

-- the same from place k on; n is the next place
pub record StoredAt (ws before : List ℕ) (k n : ℕ) (out : List ℕ) : Type 0 where
  pub next : n ≡ k + length ws
  pub written : out ≡ sets before k ws

-- what a call that writes nothing gives: a value, or the one in its place where it is refused
pub record Says {A : Type 0} (f : ℕ) (value missing : A) (refusal : ℕ) (answer : A) : Type 0 where
  pub number : refusal ≡ f
  pub says : answer ≡ accepted f value missing

-- cleared up to place 4, not cleared, refused; zeros within a list, past its end, and none
examples : (after 0 (7 ∷ 8 ∷ []) 4 (1 ∷ 2 ∷ 3 ∷ 4 ∷ 5 ∷ []) ≡ 7 ∷ 8 ∷ 0 ∷ 0 ∷ 5 ∷ [])
    × (after 0 (7 ∷ 8 ∷ []) 0 (1 ∷ 2 ∷ 3 ∷ 4 ∷ 5 ∷ []) ≡ 7 ∷ 8 ∷ 3 ∷ 4 ∷ 5 ∷ [])
    × (after 3 (7 ∷ 8 ∷ []) 4 (1 ∷ 2 ∷ 3 ∷ 4 ∷ 5 ∷ []) ≡ 1 ∷ 2 ∷ 3 ∷ 4 ∷ 5 ∷ [])
    × (zeroed 1 3 (1 ∷ 2 ∷ 3 ∷ 4 ∷ []) ≡ 1 ∷ 0 ∷ 0 ∷ 4 ∷ [])
    × (zeroed 3 9 (1 ∷ 2 ∷ 3 ∷ 4 ∷ []) ≡ 1 ∷ 2 ∷ 3 ∷ 0 ∷ [])
    × (zeroed 3 1 (1 ∷ 2 ∷ 3 ∷ 4 ∷ []) ≡ 1 ∷ 2 ∷ 3 ∷ 4 ∷ [])
unfolding after accepted padded over zeroed
examples = (refl, refl, refl, refl, refl, refl)
