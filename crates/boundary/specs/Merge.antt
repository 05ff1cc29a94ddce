-- The set operations as one merge of boundaries: in a valid list each word is a boundary, at which the rows change between outside and inside.
-- The laws in proofs/ say what it gives for valid lists, row by row, and that nothing else could be given.
use Rattle.std.specs.Prelude.{Bool, true, false, not, cond, ◌&&◌, ◌||◌, List, [], ◌∷◌, ℕ, zero, suc, ◌+◌, ◌*◌, ◌/◌, ◌%◌, ◌^◌, min, eqb, length}
use Rattle.fields.specs.Counting.{bit}

-- the lesser of the first words
abbrev pub least : List ℕ → List ℕ → ℕ
least [] [] = 0
least [] (y ∷ b) = y
least (x ∷ a) [] = x
least (x ∷ a) (y ∷ b) = min x y

-- the list past its first word, where that is x
abbrev pub pop : ℕ → List ℕ → List ℕ
pop x [] = []
pop x (y ∷ ws) = cond (eqb x y) ws (y ∷ ws)

-- the state past the first word, where that is x
abbrev pub flip : ℕ → List ℕ → Bool → Bool
flip x [] p = p
flip x (y ∷ ws) p = cond (eqb x y) (not p) p

-- the boundary x, where the states before and after it differ
abbrev pub emit : Bool → Bool → ℕ → List ℕ → List ℕ
emit true true x ws = ws
emit true false x ws = x ∷ ws
emit false true x ws = x ∷ ws
emit false false x ws = ws

-- n boundaries from the states p and q on, each the lesser first word
abbrev pub boundaries : (Bool → Bool → Bool) → ℕ → Bool → Bool → List ℕ → List ℕ → List ℕ
boundaries op zero p q a b = []
boundaries op (suc n) p q a b =
    let x = least a b in
    emit (op p q) (op (flip x a p) (flip x b q)) x (boundaries op n (flip x a p) (flip x b q) (pop x a) (pop x b))

-- all boundaries
unfoldable pub merge : (Bool → Bool → Bool) → Bool → Bool → List ℕ → List ℕ → List ℕ
merge op p q a b = boundaries op (length a + length b) p q a b

-- the rows r for which op holds of "r is listed in a" and "r is listed in b"
unfoldable pub combine : (Bool → Bool → Bool) → List ℕ → List ℕ → List ℕ
unfolding merge
combine op a b = merge op false false a b

-- "For every row: in either, in both, in the left and not in the right"
abbrev pub either : Bool → Bool → Bool
either p q = p || q

abbrev pub both : Bool → Bool → Bool
both p q = p && q

abbrev pub left_only : Bool → Bool → Bool
left_only p q = p && not q

-- an operation by its truth table, a number of four bits: bit 0 for neither list, 1 for the right alone, 2 for the left alone, 3 for both
unfoldable pub op_of : ℕ → Bool → Bool → Bool
op_of table p q = eqb (table / 2 ^ (bit p * 2 + bit q) % 2) 1
