-- Lengths and their limits (document 01, "words and runs"): "a run list has at most 268,435,455 runs, a block or an index at most 4,294,967,295 bytes,
-- packed bits at most 536,870,911 bytes, a filter 4,096 steps, a row or range input 268,435,455 items".
use Rattle.std.specs.Prelude.{◌≡◌, refl, List, [], ◌∷◌, ℕ, ◌*◌, ltb, length}
use Rattle.fields.specs.Refusal.{when, ◌then◌}
use Rattle.fields.specs.Answers.{short}

-- runs of a list, rows, ranges
abbrev pub max_items : ℕ
max_items = 268435455

-- words of a pair list: "too long from one word past two per item"
abbrev pub max_words : ℕ
max_words = 2 * max_items

-- bytes of a block or an index
abbrev pub max_bytes : ℕ
max_bytes = 4294967295

-- bytes of packed bits
abbrev pub max_bits : ℕ
max_bits = 536870911

-- steps of a filter
abbrev pub max_steps : ℕ
max_steps = 4096

-- "1 a length above its limit"
unfoldable pub too_long : ℕ → List ℕ → ℕ
too_long limit l = when (ltb limit (length l)) 1

-- a result of n places, with at most limit: "10 .. a result past its length limit"
abbrev pub past_limit : ℕ → ℕ → ℕ
past_limit limit n = when (ltb limit n) 10

-- "10 an output shorter than needed, or a result past its length limit"
unfoldable pub no_room : ℕ → ℕ → ℕ → ℕ
no_room limit n room = short n room then past_limit limit n

-- at a limit and past it; a result that fits, one that does not, one past its limit
examples : (too_long 2 (7 ∷ 7 ∷ []) ≡ 0)
    × (too_long 1 (7 ∷ 7 ∷ []) ≡ 1)
    × (no_room 9 4 4 ≡ 0)
    × (no_room 9 4 3 ≡ 10)
    × (no_room 3 4 4 ≡ 10)
unfolding too_long no_room short when ◌then◌
examples = (refl, refl, refl, refl, refl)
