-- Select over packed bits (REQUESTS.md, job 6), over blocks of size bits.
use Rattle.std.specs.Prelude.{◌≡◌, refl, cond, List, [], ◌∷◌, map, ℕ, ltb, length}
use Rattle.fields.specs.Refusal.{◌then◌}
use Rattle.fields.specs.Counting.{count_below}
use Rattle.fields.specs.Answers.{none, short, Gives}
use Rattle.fields.specs.declared.outcome.Answer.{Answer}
use Rattle.packed.specs.Bits.{bit_at, cut_to}
use Rattle.byte_select.specs.Select.{first_with, nth_with}
use Rattle.bit_rank.specs.BitRanks.{rank_fault}

-- "the place of the set bit with exactly k set bits before it, below len, or none"; end is len, cut as for rank
unfoldable pub bit_select : List ℕ → ℕ → ℕ → ℕ
unfolding nth_with
bit_select bits end k = cond (ltb (nth_with (bit_at bits) end k) end) (nth_with (bit_at bits) end k) none

-- `select`: "It takes a list of k and writes one word for each, as rank does"; refused as rank is
abbrev pub Selects : List ℕ → ℕ → List ℕ → List ℕ → List ℕ → Answer → List ℕ → Type 0
Selects bits len directory ks before r out =
    Gives (rank_fault 512 bits (cut_to bits len) directory then short (length ks) (length before)) (map (bit_select bits (cut_to bits len)) ks) 0 before r out

-- byte 0x0D: bits 0, 2 and 3, then bit 15; cut to 3 bits; no bits below len; no bytes
examples : (map (bit_select (0x0D ∷ 0x80 ∷ []) 16) (0 ∷ 1 ∷ 2 ∷ 3 ∷ 4 ∷ []) ≡ 0 ∷ 2 ∷ 3 ∷ 15 ∷ none ∷ [])
    × (map (bit_select (0x0D ∷ []) 3) (0 ∷ 1 ∷ 2 ∷ 18446744073709551615 ∷ []) ≡ 0 ∷ 2 ∷ none ∷ none ∷ [])
    × (map (bit_select (0x0D ∷ []) (cut_to (0x0D ∷ []) 99)) (2 ∷ 3 ∷ []) ≡ 3 ∷ none ∷ [])
    × (map (bit_select (0x0D ∷ []) 0) (0 ∷ []) ≡ none ∷ [])
    × (map (bit_select [] 0) (0 ∷ 5 ∷ []) ≡ none ∷ none ∷ [])
unfolding bit_select nth_with first_with bit_at count_below cut_to
examples = (refl, refl, refl, refl, refl)
