-- The run list of packed bits (document 01, "Building lists"): "row r is bit r mod 8, lowest first, of byte r div 8".
use Rattle.std.specs.Prelude.{Bool, false, ◌≡◌, refl, List, [], ◌∷◌, ℕ, zero, suc, ◌*◌, length}
use Rattle.fields.specs.Refusal.{◌then◌}
use Rattle.fields.specs.Answers.{Gives}
use Rattle.fields.specs.declared.outcome.Answer.{Answer}
use Rattle.fields.specs.Limits.{too_long, no_room, max_words, max_bits}
use Rattle.packed.specs.Bits.{bit_at}
use Rattle.boundary.specs.Merge.{emit}

-- the boundaries of f at the n rows from r on, after the state b: the rows at which f changes. Past them no row is listed
abbrev pub changes : (ℕ → Bool) → Bool → ℕ → ℕ → List ℕ
changes f b r zero = emit b false r []
changes f b r (suc n) = emit b (f r) r (changes f (f r) (suc r) n)

unfoldable pub list_of : List ℕ → List ℕ
unfolding bit_at
list_of bits = changes (bit_at bits) false 0 (length bits * 8)

-- `from_packed_bits`
abbrev pub Packed : List ℕ → List ℕ → Answer → List ℕ → Type 0
Packed bits before r out = Gives (too_long max_bits bits then no_room max_words (length (list_of bits)) (length before)) (list_of bits) 0 before r out

-- document 01's table, row 11; a run up to the last bit; no bytes
examples : (list_of (0x0D ∷ []) ≡ 0 ∷ 1 ∷ 2 ∷ 4 ∷ []) × (list_of (0 ∷ 0xF0 ∷ []) ≡ 12 ∷ 16 ∷ []) × (list_of [] ≡ [])
unfolding list_of bit_at
examples = (refl, refl, refl)
