-- What the private functions' contracts cite: the set digits of a word as rows. No open contract needs it.
use Rattle.std.specs.Prelude.{List, [], ◌∷◌, ℕ, zero, suc, ◌+◌, ◌*◌, ◌/◌, ◌%◌, ◌^◌, bit_xor}

-- row r in front of the rows rs, where the digit is set
abbrev pub mark : ℕ → ℕ → List ℕ → List ℕ
mark zero r rs = rs
mark (suc d) r rs = r ∷ rs

-- the rows of the set digits among the n lowest ones of v; the lowest is row r
unfoldable pub marks : ℕ → ℕ → ℕ → List ℕ
marks zero r v = []
marks (suc n) r v = mark (v % 2) r (marks n (suc r) (v / 2))

-- the rows of the digits of w, the word i, that differ from the digit before them; c is that before the lowest one
abbrev pub changes_at : ℕ → ℕ → ℕ → List ℕ
changes_at i w c = marks 64 (i * 64) (bit_xor w (w * 2 ^ 1 % 2 ^ 64 + c))
