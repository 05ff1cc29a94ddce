-- Directories of set bits before blocks of size bits: their entries, the count of a block, and the count before a place.
use mathlib.Core.Path.{◌≡◌, refl, sym, ap, ◌∙◌}
use mathlib.Core.Bool.{false}
use mathlib.Core.Logic.{⊎_elim}
use mathlib.Core.List.{List, []}
use Prim.Native.Nat.{ℕ, zero, suc, ◌+◌, ◌-◌, ◌*◌, ◌≤◌, ◌<◌, min}
use native.Mathlib.Nat.{add-mul, mul_left_comm, mul-zero, zero-mul, suc-mul, mul-le-mul_right, le-mul_of_pos_right}
use native.Mathlib.Omega.{arith}
use lib.ListN.{length, get_or}
use mir.Val.{Fits}
use mir.Syntax.{w32, w64}
use Rattle.fields.specs.Answers.{accepted}
use Rattle.fields.specs.Bytes.{number_at, from_le, Bytes}
use Rattle.fields.specs.Directory.{same}
use Rattle.fields.specs.Limits.{max_bits}
use Rattle.fields.proofs.Limits.{long-found, long-none}
use Rattle.fields.proofs.Tests.{split-le}
use Rattle.fields.proofs.Directories.{compare-length}
use Rattle.fields.proofs.Counted.{Entries}
use Rattle.packed.specs.Bits.{set_below, counts, block_count, WholeWords, Ones}
use Rattle.packed.proofs.Digits.{set_word}
use Rattle.packed.proofs.Counts.{set-le, set-mono, set_past, set-bytes}

pub length-counts : (size : ℕ) (bs : List ℕ) (i n : ℕ) → length (counts size bs i n) ≡ n
unfolding counts
length-counts size bs i zero = refl
length-counts size bs i (suc n) = ap suc (length-counts size bs (suc i) n)

pub get_or-counts : (size : ℕ) (bs : List ℕ) (i n j : ℕ) → j < n → get_or (counts size bs i n) j 0 ≡ set_below bs ((i + j) * size)
unfolding counts
get_or-counts size bs i zero j h = absurd (omega arith)
get_or-counts size bs i (suc n) zero h = let e : i ≡ i + 0 = omega arith in ap (λ (k : ℕ). set_below bs (k * size)) e
get_or-counts size bs i (suc n) (suc j) h =
    let e : suc i + j ≡ i + suc j = omega arith in
    get_or-counts size bs (suc i) n j (omega arith) ∙ ap (λ (k : ℕ). set_below bs (k * size)) e

-- what the entry at an index is
pub entry-is : (size : ℕ) (bs : List ℕ) (n j : ℕ) → j < n → get_or (counts size bs 0 n) j 0 ≡ set_below bs (j * size)
entry-is size bs n j h = get_or-counts size bs 0 n j h ∙ ap (λ (k : ℕ). set_below bs (k * size)) (omega arith)

-- the words of the directory, by their blocks
pub counted : (size : ℕ) (bs : List ℕ) (n : ℕ) → Entries (counts size bs 0 n) n (λ i. set_below bs (i * size))
counted size bs n =
    let e : 0 * size ≡ 0 = omega arith in
    record { size = sym (length-counts size bs 0 n); first = rw e (omega (arith, set-le bs 0)); each = λ i h. sym (entry-is size bs n i h) }

pub other_length : (size : ℕ) (bs : List ℕ) (n : ℕ) (given : List ℕ) → (length given ≡ n → ⊥) → false ≡ same given (counts size bs 0 n)
other_length size bs n given = compare-length given (counts size bs 0 n) n (counted size bs n).size

-- ---- the ways through `count_block`

module _ (i words : ℕ) where
  pub scaled : i * (64 * words) ≡ i * words * 64
  scaled = mul_left_comm i 64 words ∙ omega arith

  scaled-next : (i + 1) * (64 * words) ≡ (i * words + words) * 64
  scaled-next = mul_left_comm (i + 1) 64 words ∙ rw (add-mul i 1 words) (omega arith)

module _ (bs : List ℕ) (words i : ℕ) where
  pub block-long : max_bits < length bs → 0 ≡ block_count (64 * words) bs i
  unfolding block_count accepted
  block-long h = rw (← long-found max_bits bs h)

  module _ (l : length bs ≤ max_bits) where
    block-is : block_count (64 * words) bs i ≡ set_below bs ((i * words + words) * 64) - set_below bs (i * words * 64)
    unfolding block_count accepted
    block-is = rw (← long-none max_bits bs l, scaled i words, scaled-next i words)

    pub block-word : words ≡ 1 → Bytes bs → (w o : ℕ) → w ≡ number_at 8 bs (i * 8) → Ones w o → o ≡ block_count (64 * words) bs i
    block-word e all w o d n =
        let p : (i * words + words) * 64 ≡ (i + 1) * 64 = rw e (omega arith) in
        let q : i * words * 64 ≡ i * 64 = rw e (omega arith) in
        rw (block-is, p, q) (omega (arith, n.value, rw (← d) at (set_word bs i all)))

    pub block-whole : words ≡ 1 → Bytes bs → (ws : List (List ℕ)) → WholeWords bs ws → i < length ws → (w o : ℕ) → w ≡ from_le (get_or ws i []) → Ones w o
        → o ≡ block_count (64 * words) bs i
    block-whole e all ws m h w o d n = block-word e all w o (d ∙ m.each i h) n

    pub block-past : 67108864 < i → 0 ≡ block_count (64 * words) bs i
    block-past h = rw block-is (go words)
      where
        go : (words : ℕ) → 0 ≡ set_below bs ((i * words + words) * 64) - set_below bs (i * words * 64)
        go zero = rw (mul-zero i) (omega arith)
        go (suc n) =
            let m : i ≤ i * suc n = le-mul_of_pos_right i (omega arith) in
            omega (arith, set_past bs ((i * suc n + suc n) * 64) (i * suc n * 64) (omega arith) (omega arith))

    module _ (few : i ≤ 67108864) (size : ℕ) (is : size ≡ min words 67108864) where
      pub block-done : (r : ℕ) → r ≡ set_below bs ((i * size + size) * 64) - set_below bs (i * size * 64) → r ≡ block_count (64 * words) bs i
      block-done r e = e ∙ ⊎_elim (λ k. same (omega (arith, k.1))) (λ k. wider (omega (arith, k.1)) k.1) (split-le words 67108864) ∙ sym block-is
        where
          same : size ≡ words → set_below bs ((i * size + size) * 64) - set_below bs (i * size * 64) ≡ set_below bs ((i * words + words) * 64) - set_below bs (i * words * 64)
          same k = rw k

          -- a block that is longer than the bits: the first has them all
          start : (j : ℕ) → size ≡ 67108864 → 67108864 < words → set_below bs (j * size * 64) ≡ set_below bs (j * words * 64)
          start zero k m = rw (zero-mul size, zero-mul words)
          start (suc j) k m = rw (suc-mul j size, suc-mul j words) (set_past bs ((j * size + size) * 64) ((j * words + words) * 64) (omega arith) (omega arith))

          wider : size ≡ 67108864 → 67108864 < words
              → set_below bs ((i * size + size) * 64) - set_below bs (i * size * 64) ≡ set_below bs ((i * words + words) * 64) - set_below bs (i * words * 64)
          wider k m = rw (start i k m, set_past bs ((i * size + size) * 64) ((i * words + words) * 64) (omega arith) (omega arith))

-- ---- an entry from the one before it

module _ (bs : List ℕ) (size i before : ℕ) (l : length bs ≤ max_bits) (e : before ≡ set_below bs (i * size)) (y : ℕ) (d : y ≡ block_count size bs i) where
  pub next-entry : before + y ≡ set_below bs ((i + 1) * size)
  unfolding block_count accepted
  next-entry =
      let k = rw (← long-none max_bits bs l) at d in
      omega (arith, e, k, set-mono bs (i * size) ((i + 1) * size) (mul-le-mul_right size (omega arith)))

  pub next_fits : Fits w64 (before + y)
  next_fits = record { fits = omega (arith, next-entry, set-bytes bs ((i + 1) * size), l) }

-- an entry is a 32-bit number
pub entry-narrow : (bs : List ℕ) (p w : ℕ) → length bs ≤ max_bits → w ≡ set_below bs p → Fits w32 w
entry-narrow bs p w l e = record { fits = omega (arith, set-bytes bs p) }
