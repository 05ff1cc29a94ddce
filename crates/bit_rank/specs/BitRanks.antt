-- Ranks over packed bits (document 01, "Packed-bit ranks and presence", `BitRankDirectory`), over blocks of size bits.
use Rattle.std.specs.Prelude.{◌≡◌, refl, cond, List, [], ◌∷◌, map, ℕ, ◌+◌, ◌-◌, ◌/◌, min, leb, length}
use Rattle.fields.specs.Refusal.{when, ◌then◌}
use Rattle.fields.specs.Counting.{count_below}
use Rattle.fields.specs.Answers.{short, Gives, Says}
use Rattle.fields.specs.Directory.{other_directory}
use Rattle.fields.specs.declared.outcome.Answer.{Answer}
use Rattle.fields.specs.declared.outcome.Number.{Number}
use Rattle.fields.specs.Limits.{too_long, max_bits}
use Rattle.packed.specs.Bits.{bit_at, set_below, cut_to, counts}
use Rattle.run_list.specs.Runs.{odd}

-- "len is cut to 8 times the bytes" (`cut_to`); end is the length that is left

-- "Entries: len div 512, plus 1, each the set bits before its block of 512"
unfoldable pub bit_directory : ℕ → List ℕ → ℕ → List ℕ
bit_directory size bits end = counts size bits 0 (end / size + 1)

-- "`rank` cuts its position to len"; "bits at or past len never count"
unfoldable pub bit_rank : List ℕ → ℕ → ℕ → ℕ
bit_rank bits end p = set_below bits (min p end)

-- "`count_range` is 0 when end <= start"
unfoldable pub bit_range : List ℕ → ℕ → ℕ → ℕ → ℕ
unfolding bit_rank
bit_range bits end from to = cond (leb to from) 0 (bit_rank bits end to - bit_rank bits end from)

-- pairs, start then end
unfoldable pub bit_ranges : List ℕ → ℕ → List ℕ → List ℕ
unfolding bit_range
bit_ranges bits end [] = []
bit_ranges bits end (p ∷ []) = []
bit_ranges bits end (p ∷ q ∷ ps) = bit_range bits end p q ∷ bit_ranges bits end ps

-- ---- the calls; RANK_SUPERBLOCK_BITS is 512

-- `new`
abbrev pub Directory : List ℕ → ℕ → List ℕ → Answer → List ℕ → Type 0
Directory bits len before r out =
    let directory = bit_directory 512 bits (cut_to bits len) in
    Gives (too_long max_bits bits then short (length directory) (length before)) directory 0 before r out

-- 1, then 9
unfoldable pub rank_fault : ℕ → List ℕ → ℕ → List ℕ → ℕ
rank_fault size bits end directory = too_long max_bits bits then other_directory directory (bit_directory size bits end)

-- `rank`
abbrev pub Ranks : List ℕ → ℕ → List ℕ → List ℕ → List ℕ → Answer → List ℕ → Type 0
Ranks bits len directory positions before r out =
    Gives (rank_fault 512 bits (cut_to bits len) directory then short (length positions) (length before)) (map (bit_rank bits (cut_to bits len)) positions) 0 before r out

-- 1, then 6, then 9
unfoldable pub range_fault : ℕ → List ℕ → ℕ → List ℕ → List ℕ → ℕ
range_fault size bits end directory pairs = too_long max_bits bits then when (odd pairs) 6 then other_directory directory (bit_directory size bits end)

-- `count_range`
abbrev pub Ranges : List ℕ → ℕ → List ℕ → List ℕ → List ℕ → Answer → List ℕ → Type 0
Ranges bits len directory pairs before r out =
    let counted = bit_ranges bits (cut_to bits len) pairs in
    Gives (range_fault 512 bits (cut_to bits len) directory pairs then short (length counted) (length before)) counted 0 before r out

-- `total`
abbrev pub Total : List ℕ → ℕ → List ℕ → Number → Type 0
Total bits len directory r = Says (rank_fault 512 bits (cut_to bits len) directory) (set_below bits (cut_to bits len)) 0 r.refusal r.number

-- document 01's table, row 13; len 0, len past the bytes, no bytes; positions at 0, at len, past len and at 2^64 - 1; ranges
examples : (set_below (0xFF ∷ []) (cut_to (0xFF ∷ []) 5) ≡ 5)
    × (bit_directory 512 (0xFF ∷ []) (cut_to (0xFF ∷ []) 0) ≡ 0 ∷ [])
    × (bit_directory 512 [] (cut_to [] 9) ≡ 0 ∷ [])
    × (bit_directory 8 (0xFF ∷ 1 ∷ []) (cut_to (0xFF ∷ 1 ∷ []) 99) ≡ 0 ∷ 8 ∷ 9 ∷ [])
    × (map (bit_rank (0xFF ∷ []) 5) (0 ∷ 3 ∷ 5 ∷ 6 ∷ 18446744073709551615 ∷ []) ≡ 0 ∷ 3 ∷ 5 ∷ 5 ∷ 5 ∷ [])
    × (map (bit_rank [] (cut_to [] 5)) (0 ∷ 5 ∷ []) ≡ 0 ∷ 0 ∷ [])
    × (bit_ranges (0xFF ∷ []) 5 (1 ∷ 4 ∷ 4 ∷ 1 ∷ 3 ∷ 18446744073709551615 ∷ []) ≡ 3 ∷ 0 ∷ 2 ∷ [])
unfolding bit_directory bit_rank bit_range bit_ranges set_below bit_at count_below cut_to counts
examples = (refl, refl, refl, refl, refl, refl, refl)
