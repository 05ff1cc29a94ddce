-- Presence over packed bits (document 01, "Packed-bit ranks and presence").
use Rattle.std.specs.Prelude.{◌≡◌, refl, cond, List, [], ◌∷◌, map, ℕ, ◌+◌, ◌/◌, length, Option, Some, None, Result}
use Rattle.std.specs.Result.{result_unwrap_or}
use Rattle.fields.specs.Refusal.{◌then◌, refusal_of}
use Rattle.fields.specs.Counting.{count_below}
use Rattle.fields.specs.Answers.{none, word_of, short, Gives, Says}
use Rattle.fields.specs.Directory.{other_directory}
use Rattle.fields.specs.declared.outcome.Refusal.{Refusal}
use Rattle.fields.specs.declared.outcome.Answer.{Answer}
use Rattle.fields.specs.declared.outcome.Number.{Number}
use Rattle.fields.specs.Limits.{too_long, max_bits}
use Rattle.packed.specs.Bits.{bit_at, set_below, cut_to, counts}

-- "A set row yields the set bits before it; a clear row or one past the bytes yields none"
unfoldable pub position : List ℕ → ℕ → Option ℕ
position bits row = cond (bit_at bits row) (Some (set_below bits row)) None

-- the same as a word
unfoldable pub position_of : List ℕ → ℕ → ℕ
unfolding position
position_of bits row = word_of (position bits row)

-- "a 32-bit entry per begun 64 bits, the set bits before them"
unfoldable pub presence_directory : List ℕ → List ℕ
presence_directory bits = counts 64 bits 0 ((length bits + 7) / 8)

-- `count_set_bits`: "set bits below the lesser of len and 8 times the bytes"
abbrev pub SetBits : List ℕ → ℕ → Number → Type 0
SetBits bits len r = Says (too_long max_bits bits) (set_below bits (cut_to bits len)) 0 r.refusal r.number

-- `present_position`, and its answer with the word
abbrev pub PresentPosition : List ℕ → ℕ → Result (Option ℕ) Refusal → Type 0
PresentPosition bits row r = Says (too_long max_bits bits) (position bits row) None (refusal_of r) (result_unwrap_or r None)

abbrev pub Position : List ℕ → ℕ → Number → Type 0
Position bits row r = Says (too_long max_bits bits) (position_of bits row) 0 r.refusal r.number

-- `new`
abbrev pub Directory : List ℕ → List ℕ → Answer → List ℕ → Type 0
Directory bits before r out =
    Gives (too_long max_bits bits then short (length (presence_directory bits)) (length before)) (presence_directory bits) 0 before r out

-- 1, then 9
unfoldable pub position_fault : List ℕ → List ℕ → ℕ
position_fault bits directory = too_long max_bits bits then other_directory directory (presence_directory bits)

-- `position`
abbrev pub Positions : List ℕ → List ℕ → List ℕ → List ℕ → Answer → List ℕ → Type 0
Positions bits directory rows before r out =
    Gives (position_fault bits directory then short (length rows) (length before)) (map (position_of bits) rows) 0 before r out

-- document 01's table, row 12; row 2^64 - 1; no bytes; directories of 0, 1, 8 and 9 bytes
examples : (map (position_of (0x0D ∷ [])) (0 ∷ 1 ∷ 2 ∷ 3 ∷ 8 ∷ []) ≡ 0 ∷ none ∷ 1 ∷ 2 ∷ none ∷ [])
    × (position_of (0x0D ∷ []) 18446744073709551615 ≡ none)
    × (position_of [] 0 ≡ none)
    × (presence_directory [] ≡ [])
    × (presence_directory (0x0D ∷ []) ≡ 0 ∷ [])
    × (presence_directory (1 ∷ 1 ∷ 1 ∷ 1 ∷ 1 ∷ 1 ∷ 1 ∷ 0x80 ∷ []) ≡ 0 ∷ [])
    × (presence_directory (1 ∷ 1 ∷ 1 ∷ 1 ∷ 1 ∷ 1 ∷ 1 ∷ 0x80 ∷ 1 ∷ []) ≡ 0 ∷ 8 ∷ [])
unfolding position_of presence_directory bit_at set_below count_below counts
examples = (refl, refl, refl, refl, refl, refl, refl)
