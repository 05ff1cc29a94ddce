-- Lists whose words strictly rise. A list is valid when its words rise and their number is even (`valid-from`, `valid-ends`, `from-valid`).
use Rattle.std.specs.Prelude.{Bool, false, not, cond, ◌||◌, List, [], ◌∷◌, ℕ, suc, ◌≤◌, leb, eqb}

-- the words strictly rise, and the first is at least lo
abbrev pub From : ℕ → List ℕ → Type 0
From lo [] = Unit {0}
From lo (x ∷ ws) = (lo ≤ x) × From (suc x) ws

abbrev pub Rising : List ℕ → Type 0
Rising ws = From 0 ws

-- every word has P
abbrev pub All : (ℕ → Type 0) → List ℕ → Type 0
All P [] = Unit {0}
All P (x ∷ ws) = P x × All P ws

-- x is one of the words
abbrev pub elem : ℕ → List ℕ → Bool
elem x [] = false
elem x (y ∷ ws) = eqb y x || elem x ws

-- the state at row r, from the state b: each word at most r changes it
abbrev pub inside : Bool → List ℕ → ℕ → Bool
inside b [] r = b
inside b (x ∷ ws) r = cond (leb x r) (inside (not b) ws r) b

-- the state after all words, from the state b
abbrev pub ends : Bool → List ℕ → Bool
ends b [] = b
ends b (x ∷ ws) = ends (not b) ws
