-- What the computed examples of the crates above are written with.
use mathlib.Core.List.{List, [], ◌∷◌}
use Prim.Native.Nat.{ℕ}
use lib.ListN.{length}
use Rattle.fields.specs.Answers.{accepted, after}

-- an outcome: the refusal, the returned length and the output after the call; and an output of three words
abbrev pub Outcome : Type 0
Outcome = ℕ × ℕ × List ℕ

unfoldable pub outcome : ℕ → List ℕ → ℕ → List ℕ → Outcome
unfolding accepted after
outcome f ws n before = (f, accepted f (length ws) 0, after f ws n before)

abbrev pub sevens : List ℕ
sevens = 7 ∷ 7 ∷ 7 ∷ []
