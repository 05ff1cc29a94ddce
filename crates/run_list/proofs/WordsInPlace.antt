-- A block's words in place: the parts of eight bytes behind its count.
use mathlib.Core.Path.{◌≡◌, refl, ap, ◌∙◌}
use mathlib.Core.List.{List, [], ◌∷◌, map}
use Prim.Native.Nat.{ℕ, zero, suc, ◌+◌, ◌-◌, ◌*◌, ◌/◌, ◌≤◌, ◌<◌, ◌^◌}
use native.Mathlib.Omega.{arith}
use lib.ListN.{length, take, drop, length-drop}
use lib.Seq.{drop-drop, take_all}
use Rattle.std.specs.Simd.{first_chunks}
use Rattle.fields.specs.Bytes.{from_le, number_at}
use Rattle.run_list.specs.Blocks.{words_at, block_runs, block_words}
use Rattle.run_list.proofs.BlockWords.{runs-within}

words_in : (n m : ℕ) (b : List ℕ) (at : ℕ) → n ≤ m → map from_le (take n (first_chunks 8 m (drop at b))) ≡ words_at n b at
unfolding words_at number_at
words_in zero m b at h = refl
words_in (suc n) zero b at h = absurd (omega arith)
words_in (suc n) (suc m) b at h =
    ap (λ ws. from_le (take 8 (drop at b)) ∷ map from_le (take n (first_chunks 8 m ws))) (drop-drop 8 at b)
    ∙ ap (λ ws. from_le (take 8 (drop at b)) ∷ ws) (words_in n m b (at + 8) (omega arith))

module _ (b : List ℕ) (n : ℕ) (e : n ≡ block_runs b) where
  pub words_none : length b < 4 → [] ≡ block_words b
  unfolding block_words words_at block_runs
  words_none h = let z : 2 * block_runs b ≡ 0 = omega arith in rw z

  pub words-few : 4 ≤ length b → length b < 2 ^ 63 → 2 * n < 2 ^ 64
  words-few h k = omega (arith, e, runs-within b h)

  module _ (h : 4 ≤ length b) (ws : List (List ℕ)) where
    -- the bytes behind the count, as a part of the block
    abbrev behind : List ℕ
    behind = take (length b - 4) (drop 4 b)

    behind-all : behind ≡ drop 4 b
    behind-all = take_all (length b - 4) (drop 4 b) (omega (arith, length-drop 4 b))

    pub words-fit : length ws ≡ length behind / 8 → 2 * n ≤ length ws
    words-fit l = omega (arith, e, rw behind-all at l, length-drop 4 b, runs-within b h)

    pub words-whole : ws ≡ first_chunks 8 (length behind / 8) behind → map from_le (take (2 * n) ws) ≡ block_words b
    unfolding block_words
    words-whole w =
        let l : 2 * n ≤ length (drop 4 b) / 8 = omega (arith, e, length-drop 4 b, runs-within b h) in
        rw (w, behind-all) (words_in (2 * n) (length (drop 4 b) / 8) b 4 l ∙ rw e)
