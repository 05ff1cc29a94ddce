-- A directory that is handed in: "9 a directory that is not the one of its data".
use Rattle.std.specs.Prelude.{◌≡◌, refl, Bool, true, false, not, ◌&&◌, List, [], ◌∷◌, ℕ, eqb}
use Rattle.fields.specs.Refusal.{when}

-- the same words
unfoldable pub same : List ℕ → List ℕ → Bool
same [] [] = true
same [] (y ∷ b) = false
same (x ∷ a) [] = false
same (x ∷ a) (y ∷ b) = eqb x y && same a b

unfoldable pub other_directory : List ℕ → List ℕ → ℕ
unfolding same
other_directory given right = when (not (same given right)) 9

-- a word too few, a word too many, another word
examples : (other_directory (0 ∷ 3 ∷ []) (0 ∷ 3 ∷ []) ≡ 0)
    × (other_directory (0 ∷ []) (0 ∷ 3 ∷ []) ≡ 9)
    × (other_directory (0 ∷ 3 ∷ 4 ∷ []) (0 ∷ 3 ∷ []) ≡ 9)
    × (other_directory (0 ∷ 4 ∷ []) (0 ∷ 3 ∷ []) ≡ 9)
unfolding other_directory same when
examples = (refl, refl, refl, refl)
