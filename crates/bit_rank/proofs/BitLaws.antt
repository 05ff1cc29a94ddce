-- Ranks over packed bits: what they mean, and one law for each way through the code.
use mathlib.Core.Path.{◌≡◌, refl, sym, ap, ◌∙◌}
use mathlib.Core.Bool.{Bool, true, false, ◌&&◌, and-true, and-false}
use mathlib.Core.Logic.{⊎_elim}
use mathlib.Core.List.{List, [], ◌∷◌}
use Prim.Native.Nat.{ℕ, zero, suc, ◌+◌, ◌-◌, ◌/◌, ◌≤◌, ◌<◌, min}
use native.Mathlib.Omega.{arith}
use borrow.Author.Tests.{le-leb, lt-leb, le-ltb}
use lib.ListN.{length, get_or, set}
use Rattle.std.specs.Simd.{first_chunks}
use Rattle.fields.specs.Counting.{bit, count_below}
use Rattle.fields.proofs.Counting.{count-suc}
use Rattle.fields.proofs.WordLists.{chunks-length}
use Rattle.fields.proofs.Storing.{Storing, storing-start, storing-next}
use Rattle.run_list.specs.Runs.{covers}
use Rattle.fields.proofs.Tests.{split-le}
use Rattle.packed.specs.Bits.{bit_at, set_below}
use Rattle.packed.proofs.Counts.{set-mono}
use Rattle.bit_rank.specs.BitRanks.{bit_rank, bit_range, bit_ranges}

-- ---- what the numbers mean: end is a length within the bits

-- rank is the number of set bits below the position and below end
pub rank-counts : (bits : List ℕ) (end p : ℕ) → bit_rank bits end p ≡ count_below (bit_at bits) (min p end)
unfolding bit_rank set_below
rank-counts bits end p = refl

-- rank at len is the total
pub rank-total : (bits : List ℕ) (end : ℕ) → bit_rank bits end end ≡ set_below bits end
unfolding bit_rank
rank-total bits end = let e : min end end ≡ end = omega arith in rw e

rank_mono : (bits : List ℕ) (end p q : ℕ) → p ≤ q → bit_rank bits end p ≤ bit_rank bits end q
unfolding bit_rank
rank_mono bits end p q h = set-mono bits (min p end) (min q end) (omega arith)

-- a range's count is the difference of its ranks: the set bits below its start and those of the range are the set bits below its end
pub range-difference : (bits : List ℕ) (end p q : ℕ) → p ≤ q → bit_rank bits end p + bit_range bits end p q ≡ bit_rank bits end q
unfolding bit_range
range-difference bits end p q h =
    ⊎_elim (λ k. rw k.0 (let d : p ≡ q = omega (arith, k.1) in rw d (omega arith))) (λ k. rw k.0 (omega (arith, rank_mono bits end p q h))) (split-le q p)

-- the numbers below n that have f and are from p up to q
abbrev between : (ℕ → Bool) → ℕ → ℕ → ℕ → ℕ
between f p q n = count_below (λ i. f i && covers p q i) n

between_next : (f : ℕ → Bool) (p q n : ℕ) (t : Bool) → covers p q n ≡ t → between f p q (suc n) ≡ between f p q n + bit (f n && t)
between_next f p q n t e = count-suc (λ i. f i && covers p q i) n ∙ rw e

between_start : (f : ℕ → Bool) (p q : ℕ) → between f p q 0 ≡ 0
unfolding count_below
between_start f p q = refl

between_none : (f : ℕ → Bool) (p q n : ℕ) → q ≤ p → between f p q n ≡ 0
between_none f p q zero h = between_start f p q
between_none f p q (suc n) h =
    between_next f p q n false (⊎_elim (λ k. rw k.0 (le-ltb n q (omega (arith, k.1)))) (λ k. rw k.0) (split-le p n))
    ∙ rw (and-false (f n)) (omega (arith, between_none f p q n h))

between_is : (f : ℕ → Bool) (p q n : ℕ) → p ≤ q → count_below f (min p n) + between f p q n ≡ count_below f (min q n)
between_is f p q zero h =
    let a : min p 0 ≡ 0 = omega arith in
    let b : min q 0 ≡ 0 = omega arith in
    rw (a, b) (omega (arith, between_start f p q))
between_is f p q (suc n) h =
    let ih = between_is f p q n h in
    ⊎_elim
    (λ k. ⊎_elim
    (λ m. let a : min p (suc n) ≡ p = omega (arith, k.1) in
    let b : min q (suc n) ≡ suc n = omega (arith, m.1) in
    let c : min p n ≡ p = omega (arith, k.1) in
    let d : min q n ≡ n = omega (arith, m.1) in
    rw (a, b, count-suc f n, between_next f p q n true (rw (k.0, m.0)), and-true (f n)) (omega (arith, rw (c, d) at ih)))
    (λ m. let a : min p (suc n) ≡ min p n = omega (arith, k.1) in
    let b : min q (suc n) ≡ min q n = omega (arith, m.1) in
    rw (a, b, between_next f p q n false (rw (k.0, m.0)), and-false (f n)) (omega (arith, ih)))
    (split-le (suc n) q))
    (λ k. let a : min p (suc n) ≡ suc n = omega (arith, k.1) in
    let b : min q (suc n) ≡ suc n = omega (arith, k.1) in
    let c : min p n ≡ n = omega (arith, k.1) in
    let d : min q n ≡ n = omega (arith, k.1) in
    rw (a, b, count-suc f n, between_next f p q n false (rw k.0), and-false (f n)) (omega (arith, rw (c, d) at ih)))
    (split-le p n)

-- `count_range` counts the set bits i with start <= i < end, of those below len
pub range-counts : (bits : List ℕ) (end p q : ℕ) → bit_range bits end p q ≡ count_below (λ i. bit_at bits i && covers p q i) end
unfolding bit_range bit_rank set_below
range-counts bits end p q =
    ⊎_elim
    (λ k. rw k.0 (sym (between_none (bit_at bits) p q end k.1)))
    (λ k. rw k.0 (omega (arith, between_is (bit_at bits) p q end (omega (arith, k.1)))))
    (split-le q p)

-- ---- a rank

-- the block of a place up to the length has an entry
pub rank-before : (p end place n : ℕ) → place ≡ min p end → n ≡ end / 512 + 1 → place / 64 / 8 < n
rank-before p end place n e d = omega (arith, e, d)

pub rank_is : (bits : List ℕ) (end p place r : ℕ) → place ≡ min p end → r ≡ set_below bits place → r ≡ bit_rank bits end p
unfolding bit_rank
rank_is bits end p place r e d = d ∙ ap (set_below bits) e

-- ---- a range

module _ (bits : List ℕ) (end p q : ℕ) where
  pub range_none : q ≤ p → 0 ≡ bit_range bits end p q
  unfolding bit_range
  range_none h = rw (le-leb q p h)

  module _ (h : p < q) (x y : ℕ) (ex : x ≡ bit_rank bits end q) (ey : y ≡ bit_rank bits end p) where
    pub range-order : y ≤ x
    range-order = omega (arith, rank_mono bits end p q (omega arith))

    pub range-is : x - y ≡ bit_range bits end p q
    unfolding bit_range
    range-is = rw (lt-leb q p h, ex, ey)

-- ---- one word for each pair

pub length-ranges : (bits : List ℕ) (end : ℕ) (ps : List ℕ) → length (bit_ranges bits end ps) ≡ length ps / 2
unfolding bit_ranges
length-ranges bits end [] = refl
length-ranges bits end (s ∷ []) = refl
length-ranges bits end (s ∷ e ∷ ps) = omega (arith, length-ranges bits end ps)

get_or-ranges : (bits : List ℕ) (end : ℕ) (ps : List ℕ) (n i : ℕ) (pair : List ℕ) → n ≡ length ps / 2 → i < n
    → get_or (bit_ranges bits end ps) i 0 ≡ bit_range bits end (get_or (get_or (first_chunks 2 n ps) i pair) 0 0) (get_or (get_or (first_chunks 2 n ps) i pair) 1 0)
unfolding bit_ranges
get_or-ranges bits end [] n i pair e h = absurd (omega arith)
get_or-ranges bits end (s ∷ []) n i pair e h = absurd (omega arith)
get_or-ranges bits end (s ∷ t ∷ ps) zero i pair e h = absurd (omega arith)
get_or-ranges bits end (s ∷ t ∷ ps) (suc n) zero pair e h = refl
get_or-ranges bits end (s ∷ t ∷ ps) (suc n) (suc i) pair e h = get_or-ranges bits end ps n i pair (omega arith) (omega arith)

module _ (bits : List ℕ) (end : ℕ) (ps : List ℕ) (pairs : List (List ℕ)) (is : pairs ≡ first_chunks 2 (length ps / 2) ps) (out : List ℕ) where
  pub ranges-start : length ps / 2 ≤ length out → Storing (bit_ranges bits end ps) (length ps / 2) out 0 out
  ranges-start h = let l = length-ranges bits end ps in storing-start (bit_ranges bits end ps) (length ps / 2) out (sym l) (omega arith)

  pub ranges-next : (i : ℕ) (out' : List ℕ) → Storing (bit_ranges bits end ps) (length ps / 2) out i out' → i < length pairs → (pair : List ℕ) (w : ℕ)
      → w ≡ bit_range bits end (get_or (get_or pairs i pair) 0 0) (get_or (get_or pairs i pair) 1 0) → Storing (bit_ranges bits end ps) (length ps / 2) out (i + 1) (set out' i w)
  ranges-next i out' m h pair w e =
      let g : i < length ps / 2 = omega (arith, rw is at h, chunks-length 2 (length ps / 2) ps) in
      storing-next (bit_ranges bits end ps) (length ps / 2) out i out' m g w (e ∙ rw is (sym (get_or-ranges bits end ps (length ps / 2) i pair refl g)))

pub ranges-length : (bits : List ℕ) (end : ℕ) (ps : List ℕ) → length ps / 2 ≡ length (bit_ranges bits end ps)
ranges-length bits end ps = sym (length-ranges bits end ps)
