-- A written block reads back as its list, and a list that was read is written as the block's own bytes.
use mathlib.Core.Path.{◌≡◌, refl, ◌∙◌}
use mathlib.Core.List.{List, [], ◌∷◌, ◌++◌, append_assoc}
use Prim.Native.Nat.{ℕ, zero, suc, ◌+◌, ◌*◌, ◌/◌, ◌%◌, ◌^◌, ◌≤◌, ◌<◌}
use native.Mathlib.Omega.{arith}
use borrow.Author.Tests.{le-ltb}
use lib.Dec.{ltb}
use lib.ListN.{length, take, drop, length-append}
use lib.Seq.{take-add, drop-drop}
use Rattle.fields.specs.Refusal.{when}
use Rattle.fields.specs.Bytes.{number_at, to_le, Bytes}
use Rattle.fields.proofs.Numbers.{length-to_le, field-there, field_back, number_at-bound, to_le-bytes, bytes-append}
use Rattle.fields.proofs.Refusals.{then-none, when_false}
use Rattle.fields.specs.Limits.{max_words, max_bytes}
use Rattle.run_list.specs.Rising.{All}
use Rattle.run_list.specs.Runs.{Valid, runs_fault}
use Rattle.run_list.specs.Blocks.{run_count, block_fault, words_at, block_runs, block_words, exact_block, word_bytes, block_bytes}
use Rattle.run_list.proofs.Validity.{runs-valid, valid-runs, valid-even}
use Rattle.run_list.proofs.BlockWords.{block_fault-none, block_fault-words, length-block_words, runs-within}

-- ---- the length of what is written

pub length-word_bytes : (ws : List ℕ) → length (word_bytes ws) ≡ 8 * length ws
unfolding word_bytes
length-word_bytes [] = refl
length-word_bytes (w ∷ ws) = omega (arith, length-word_bytes ws, length-append (to_le 8 w) (word_bytes ws), length-to_le 8 w)

pub length-block_bytes : (ws : List ℕ) → length (block_bytes ws) ≡ 4 + 8 * length ws
unfolding block_bytes
length-block_bytes ws = omega (arith, length-append (to_le 4 (length ws / 2)) (word_bytes ws), length-to_le 4 (length ws / 2), length-word_bytes ws)

-- ---- what is written is bytes

words-bytes : (ws : List ℕ) → Bytes (word_bytes ws)
unfolding word_bytes
words-bytes [] = λ i. omega arith
words-bytes (w ∷ ws) = bytes-append (to_le 8 w) (word_bytes ws) (to_le-bytes 8 w) (words-bytes ws)

pub written-bytes : (ws : List ℕ) → Bytes (block_bytes ws)
unfolding block_bytes
written-bytes ws = bytes-append (to_le 4 (length ws / 2)) (word_bytes ws) (to_le-bytes 4 (length ws / 2)) (words-bytes ws)

-- ---- what was written is read

-- written words that stand in a list
words-there : (ws l p q : List ℕ) (at : ℕ) → l ≡ p ++ (word_bytes ws ++ q) → length p ≡ at → All (λ w. w < 2 ^ 64) ws → words_at (length ws) l at ≡ ws
unfolding words_at word_bytes
words-there [] l p q at e h s = refl
words-there (w ∷ ws) l p q at e h s =
    let a = to_le 8 w in
    let e1 : l ≡ p ++ (a ++ (word_bytes ws ++ q)) = e ∙ simp append_assoc in
    let e2 : l ≡ (p ++ a) ++ (word_bytes ws ++ q) = e1 ∙ simp append_assoc in
    let k : length (p ++ a) ≡ at + 8 = omega (arith, length-append p a, length-to_le 8 w) in
    let m : w % 256 ^ 8 ≡ w = omega (arith, s.0) in
    let f : number_at 8 l at ≡ w = rw e1 (field-there 8 p (word_bytes ws ++ q) w at h ∙ m) in
    rw (f, words-there ws l (p ++ a) q (at + 8) e2 k s.1)

module _ (ws rest : List ℕ) (v : Valid ws) (h : length ws ≤ max_words) where
  shape : block_bytes ws ++ rest ≡ to_le 4 (length ws / 2) ++ (word_bytes ws ++ rest)
  unfolding block_bytes
  shape = append_assoc (to_le 4 (length ws / 2)) (word_bytes ws) rest

  count-there : run_count (block_bytes ws ++ rest) ≡ length ws / 2
  count-there =
      let m : length ws / 2 % 256 ^ 4 ≡ length ws / 2 = omega arith in
      rw shape (field-there 4 [] (word_bytes ws ++ rest) (length ws / 2) 0 refl ∙ m)

  runs-there : 2 * block_runs (block_bytes ws ++ rest) ≡ length ws
  unfolding block_runs
  runs-there = omega (arith, count-there, length-append (block_bytes ws) rest, length-block_bytes ws, valid-even ws 0 v)

  pub written-words : All (λ w. w < 2 ^ 64) ws → block_words (block_bytes ws ++ rest) ≡ ws
  unfolding block_words
  written-words s =
      rw runs-there (words-there ws (block_bytes ws ++ rest) (to_le 4 (length ws / 2)) rest 4 shape (length-to_le 4 (length ws / 2)) s)

  pub written-fault : All (λ w. w < 2 ^ 64) ws → block_fault (block_bytes ws ++ rest) ≡ 0
  written-fault s =
      let b = block_bytes ws ++ rest in
      let size : when (ltb (length b) 4) 2 ≡ 0 = when_false (ltb (length b) 4) 2 (le-ltb (length b) 4 (omega (arith, length-append (block_bytes ws) rest, length-block_bytes ws))) in
      let right : runs_fault 0 (block_words b) ≡ 0 = rw (written-words s) (valid-runs ws 0 v) in
      let last : when (ltb (block_runs b) (run_count b)) 2 ≡ 0 = when_false (ltb (block_runs b) (run_count b)) 2 (le-ltb (block_runs b) (run_count b) (omega (arith, runs-there, count-there))) in
      block_fault-words b ∙ then-none _ _ size ∙ then-none _ _ right ∙ last

pub written-reads : (ws rest : List ℕ) → Valid ws → length ws ≤ max_words → All (λ w. w < 2 ^ 64) ws
    → (block_fault (block_bytes ws ++ rest) ≡ 0) × (block_words (block_bytes ws ++ rest) ≡ ws)
written-reads ws rest v h s = (written-fault ws rest v h s, written-words ws rest v h s)

-- ---- what was read is written

words_back : (n : ℕ) (b : List ℕ) (at : ℕ) → at + 8 * n ≤ length b → Bytes b → word_bytes (words_at n b at) ≡ take (8 * n) (drop at b)
unfolding word_bytes words_at
words_back zero b at h all = refl
words_back (suc n) b at h all =
    let m : 8 * suc n ≡ 8 + 8 * n = omega arith in
    rw (m, take-add 8 (8 * n) (drop at b), drop-drop 8 at b, field_back 8 b at (omega arith) all, words_back n b (at + 8) (omega arith) all)

-- "Writing what was read yields the input with its ignored bytes cut"
pub read-writes : (b : List ℕ) → Bytes b → block_fault b ≡ 0 → block_bytes (block_words b) ≡ exact_block b
unfolding block_bytes block_words exact_block
read-writes b all e =
    let w = block_fault-none b e in
    let n : length (words_at (2 * block_runs b) b 4) / 2 ≡ run_count b = omega (arith, length-block_words b, w.all) in
    let m : 8 * (2 * block_runs b) ≡ 16 * run_count b = omega (arith, w.all) in
    rw (n, words_back (2 * block_runs b) b 4 (omega (arith, runs-within b w.counted)) all, m, field_back 4 b 0 w.counted all, take-add 4 (16 * run_count b) b)

pub read-valid : (b : List ℕ) → block_fault b ≡ 0 → Valid (block_words b)
read-valid b e = runs-valid (block_words b) 0 (omega (arith, length-block_words b)) (block_fault-none b e).right

words_small : (n : ℕ) (b : List ℕ) (at : ℕ) → Bytes b → All (λ w. w < 2 ^ 64) (words_at n b at)
unfolding words_at
words_small zero b at all = tt
words_small (suc n) b at all = (number_at-bound 8 b at all, words_small n b (at + 8) all)

pub block_words-small : (b : List ℕ) → Bytes b → All (λ w. w < 2 ^ 64) (block_words b)
unfolding block_words
block_words-small b all = words_small (2 * block_runs b) b 4 all

-- ---- the limits of lists and of blocks are the same: neither call can pass the other's

pub block_words-limit : (b : List ℕ) → length b ≤ max_bytes → length (block_words b) ≤ max_words
unfolding block_runs
block_words-limit b h = omega (arith, length-block_words b)

pub block_bytes-limit : (ws : List ℕ) → length ws ≤ max_words → length (block_bytes ws) ≤ max_bytes
block_bytes-limit ws h = omega (arith, length-block_bytes ws)
