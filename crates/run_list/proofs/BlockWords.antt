-- Reading a block: its whole runs stand within it, its words are numbers at their places, and judging it by places is judging its words, with a
-- counted run that is cut short refused after them.
use mathlib.Core.Path.{◌≡◌, refl, sym, ap, ◌∙◌}
use mathlib.Core.Bool.{Bool, true, false}
use mathlib.Core.List.{List}
use Prim.Native.Nat.{ℕ, zero, suc, ◌+◌, ◌-◌, ◌*◌, ◌/◌, ◌≤◌, ◌<◌, min}
use native.Mathlib.Nat.{add_assoc}
use native.Mathlib.Omega.{arith}
use borrow.Author.Tests.{lt-ltb, le-ltb, ltb-false}
use lib.Dec.{ltb, leb-suc-suc}
use lib.ListN.{length, take, drop, get_or}
use Rattle.fields.specs.Refusal.{when, ◌then◌}
use Rattle.fields.specs.Bytes.{number_at}
use Rattle.fields.proofs.Numbers.{part-word}
use Rattle.fields.proofs.Refusals.{then-assoc, front-none, rest-none, when-none}
use Rattle.run_list.specs.Runs.{run_fault, runs_fault}
use Rattle.run_list.specs.Blocks.{run_count, run_at_fault, read_fault, block_fault, words_at, block_runs, block_words}

-- ---- the number of whole runs

module _ (b : List ℕ) where
  pub runs-counted : block_runs b ≤ run_count b
  unfolding block_runs
  runs-counted = omega arith

  pub runs-within : 4 ≤ length b → 4 + 16 * block_runs b ≤ length b
  unfolding block_runs
  runs-within h = omega arith

  -- their words have indices that fit a machine word
  pub runs-few : (n : ℕ) → n ≡ block_runs b → 16 * n ≤ length b
  unfolding block_runs
  runs-few n e = omega arith

  -- where fewer runs are whole than are counted, the next one is cut short
  runs-cut : block_runs b < run_count b → length b < 4 + 16 * block_runs b + 16
  unfolding block_runs
  runs-cut h = omega arith

  -- the ways through `block_runs`
  pub runs_none : length b < 4 → 0 ≡ block_runs b
  unfolding block_runs
  runs_none h = omega arith

  pub runs-whole : (n : ℕ) → n ≡ run_count b → min n ((length b - 4) / 16) ≡ block_runs b
  unfolding block_runs
  runs-whole n e = rw e

-- ---- the words

pub length-words_at : (n : ℕ) (b : List ℕ) (at : ℕ) → length (words_at n b at) ≡ n
unfolding words_at
length-words_at zero b at = refl
length-words_at (suc n) b at = ap suc (length-words_at n b (at + 8))

pub length-block_words : (b : List ℕ) → length (block_words b) ≡ 2 * block_runs b
unfolding block_words
length-block_words b = length-words_at (2 * block_runs b) b 4

get_or-words_at : (n : ℕ) (b : List ℕ) (at i : ℕ) → i < n → get_or (words_at n b at) i 0 ≡ number_at 8 b (at + 8 * i)
unfolding words_at
get_or-words_at zero b at i h = absurd (omega arith)
get_or-words_at (suc n) b at zero h = let e : at ≡ at + 8 * 0 = omega arith in ap (number_at 8 b) e
get_or-words_at (suc n) b at (suc i) h =
    let e : at + 8 + 8 * i ≡ at + 8 * suc i = omega arith in
    get_or-words_at n b (at + 8) i (omega arith) ∙ ap (number_at 8 b) e

pub get_or-block_words : (b : List ℕ) (i : ℕ) → i < length (block_words b) → get_or (block_words b) i 0 ≡ number_at 8 b (4 + 8 * i)
unfolding block_words
get_or-block_words b i h = get_or-words_at (2 * block_runs b) b 4 i (omega (arith, length-block_words b))

-- a word stands within its block
pub word-within : (b : List ℕ) (i : ℕ) → i < length (block_words b) → 4 + 8 * i + 8 ≤ length b
unfolding block_runs
word-within b i h = omega (arith, length-block_words b)

-- a word read from the part of its block where it is
pub word-part : (b : List ℕ) (i at end r : ℕ) → i < length (block_words b) → at ≡ 4 + 8 * i → end ≡ at + 8 → r ≡ number_at 8 (take (end - at) (drop at b)) 0
    → r ≡ get_or (block_words b) i 0
word-part b i at end r h d e k = part-word b at end e r k ∙ ap (number_at 8 b) d ∙ sym (get_or-block_words b i h)

-- ---- the refusals

-- a run is cut short, or stands in the block whole
module _ (b : List ℕ) (at lo : ℕ) where
  pub run-cut : length b < at + 16 → run_at_fault b at lo ≡ 2
  unfolding when ◌then◌
  run-cut h = rw (lt-ltb (length b) (at + 16) h) (two (ltb (length b) (at + 8)))
    where
      two : (t : Bool) → (when t 2 then 2) ≡ 2
      two true = refl
      two false = refl

  pub run-there : at + 16 ≤ length b → run_at_fault b at lo ≡ run_fault lo (number_at 8 b at) (number_at 8 b (at + 8))
  unfolding when ◌then◌
  run-there h = rw (le-ltb (length b) (at + 8) (omega arith), le-ltb (length b) (at + 16) h)

  pub run-whole : run_at_fault b at lo ≡ 0 → at + 16 ≤ length b
  run-whole e =
      let size = when (ltb (length b) (at + 16)) 2 in
      let run = run_fault lo (number_at 8 b at) (number_at 8 b (at + 8)) in
      ltb-false (length b) (at + 16) (when-none (ltb (length b) (at + 16)) 1 (front-none size run (rest-none (when (ltb (length b) (at + 8)) 2) (size then run) e)))

-- n runs are counted, of which the first m stand in the block whole
read_whole : (m n : ℕ) (b : List ℕ) (at lo : ℕ) → m ≤ n → at + 16 * m ≤ length b → (m < n → length b < at + 16 * m + 16)
    → read_fault n b at lo ≡ (runs_fault lo (words_at (2 * m) b at) then when (ltb m n) 2)
unfolding read_fault words_at runs_fault when ◌then◌
read_whole zero zero b at lo h w s = refl
read_whole zero (suc n) b at lo h w s =
    rw (run-cut b at lo (omega (arith, s (omega arith))), lt-ltb 0 (suc n) (omega arith))
read_whole (suc m) zero b at lo h w s = absurd (omega arith)
read_whole (suc m) (suc n) b at lo h w s =
    let e : 2 * suc m ≡ suc (suc (2 * m)) = omega arith in
    let r = run_fault lo (number_at 8 b at) (number_at 8 b (at + 8)) in
    rw (e, run-there b at lo (omega arith), leb-suc-suc (suc m) n, add_assoc at 8 8)
    (rw (read_whole m n b (at + 16) (suc (number_at 8 b (at + 8))) (omega arith) (omega arith) (λ k. omega (arith, s (omega arith))))
    (sym (then-assoc r _ _)))

after-count : (b : List ℕ) (t : Bool) → ltb (length b) 4 ≡ t
    → (when t 2 then read_fault (run_count b) b 4 0) ≡ (when t 2 then runs_fault 0 (words_at (2 * block_runs b) b 4) then when (ltb (block_runs b) (run_count b)) 2)
unfolding when ◌then◌
after-count b true e = refl
after-count b false e = read_whole (block_runs b) (run_count b) b 4 0 (runs-counted b) (runs-within b (ltb-false (length b) 4 e)) (runs-cut b)

pub block_fault-words : (b : List ℕ)
    → block_fault b ≡ (when (ltb (length b) 4) 2 then runs_fault 0 (block_words b) then when (ltb (block_runs b) (run_count b)) 2)
unfolding block_fault block_words
block_fault-words b = after-count b (ltb (length b) 4) refl

-- a block that is not refused
pub record Whole (b : List ℕ) : Type 0 where
  pub counted : 4 ≤ length b
  pub all : block_runs b ≡ run_count b
  pub right : runs_fault 0 (block_words b) ≡ 0

pub block_fault-none : (b : List ℕ) → block_fault b ≡ 0 → Whole b
block_fault-none b e =
    let size = when (ltb (length b) 4) 2 in
    let runs = runs_fault 0 (block_words b) in
    let last = when (ltb (block_runs b) (run_count b)) 2 in
    let z : (size then runs then last) ≡ 0 = sym (block_fault-words b) ∙ e in
    let r = rest-none size (runs then last) z in
    let n = ltb-false (block_runs b) (run_count b) (when-none (ltb (block_runs b) (run_count b)) 1 (rest-none runs last r)) in
    record {
      counted = ltb-false (length b) 4 (when-none (ltb (length b) 4) 1 (front-none size (runs then last) z));
      all = omega (arith, n, runs-counted b);
      right = front-none runs last r;
    }
