-- The place of a set bit: by the directory, by the words of a block, and within a word.
use mathlib.Core.Path.{◌≡◌, refl, sym, ap, ◌∙◌}
use mathlib.Core.Bool.{true≢false}
use mathlib.Core.Logic.{⊎_elim}
use mathlib.Core.List.{List, []}
use Prim.Native.Nat.{ℕ, suc, ◌+◌, ◌-◌, ◌*◌, ◌/◌, ◌%◌, ◌^◌, ◌≤◌, ◌<◌}
use native.Mathlib.Nat.{mul-le-mul_right}
use native.Mathlib.Omega.{arith}
use borrow.Author.Tests.{lt-ltb, le-ltb}
use lib.ListN.{length, take, drop, get_or}
use Rattle.std.specs.Prelude.{Some, None}
use Rattle.fields.specs.Answers.{none, option_of}
use Rattle.fields.specs.Bytes.{from_le, number_at, Bytes}
use Rattle.fields.specs.Counting.{count_below}
use Rattle.fields.proofs.Answers.{option-some, option-none}
use Rattle.fields.proofs.Numbers.{number_at-bound}
use Rattle.fields.proofs.Tests.{split-le}
use Rattle.run_list.specs.Rows.{upper_bound}
use Rattle.run_list.specs.Search.{searched}
use Rattle.run_list.proofs.Places.{upper_bound-le, upper_bound-front}
use Rattle.run_list.proofs.Searching.{NonDecreasing, searched-nondecreasing, upper_bound-next}
use Rattle.std.proofs.lemmas.List.{length-take, get_or-take, get_or-drop}
use Rattle.packed.specs.Bits.{bit_at, set_below, counts, Ones, WholeWords}
use Rattle.packed.proofs.Digits.{number-digit, set_word}
use Rattle.packed.proofs.Counts.{bit_past, set-le, set-mono}
use Rattle.packed.proofs.Entries.{entry-is}
use Rattle.byte_select.specs.Select.{nth_with}
use Rattle.byte_select.proofs.Nth.{nth-is, nth-none, nth-found}
use Rattle.bit_select.specs.BitSelects.{bit_select}
use Rattle.bit_select.specs.Inner.{digit, InWord, Placed}
use Rattle.bit_select.proofs.Words.{count-from, digits-ones}

-- ---- the answer from a place

module _ (bits : List ℕ) (end k : ℕ) where
  pub select-is : (p : ℕ) → Placed bits k p → p < end → bit_select bits end k ≡ p
  unfolding bit_select set_below
  select-is p m h =
      let e = nth-is (bit_at bits) k end p (record { below = h; has = m.set; before = m.before }) in
      rw (e, lt-ltb p end h) refl

  pub select-none : set_below bits end ≤ k → bit_select bits end k ≡ none
  unfolding bit_select set_below
  select-none h =
      let e = nth-none (bit_at bits) k end h in
      let s : end ≤ end = omega arith in
      rw (e, le-ltb end end s) refl

  pub select-past : (p : ℕ) → Placed bits k p → end ≤ p → bit_select bits end k ≡ none
  select-past p m h = select-none (omega (arith, m.before, set-mono bits end p h))

-- ---- within a word

module _ (bits : List ℕ) (all : Bytes bits) (k word digits left : ℕ) (m : InWord bits k word digits left) where
  here-bit : (i : ℕ) → i < 64 → bit_at bits (word * 64 + i) ≡ digit digits i
  unfolding digit
  here-bit i h =
      let p : word * 8 * 8 + i ≡ word * 64 + i = omega arith in
      sym (rw (p, ← m.read) at (number-digit 8 bits (word * 8) i all (omega arith)))

  pub word-small : (i : ℕ) → i ≡ nth_with (digit digits) 64 left → i < 64
  word-small i e = omega (arith, e, (nth-found (digit digits) left 64 m.inside).below)

  pub word-placed : (i : ℕ) → i ≡ nth_with (digit digits) 64 left → Placed bits k (word * 64 + i)
  unfolding set_below
  word-placed i e =
      let t = nth-found (digit digits) left 64 m.inside in
      let l : i < 64 = word-small i e in
      record {
        set = here-bit i l ∙ rw e t.has;
        before =
            count-from (bit_at bits) (digit digits) (word * 64) i (λ j h. here-bit j (omega arith))
            ∙ ap (λ (n : ℕ). set_below bits (word * 64) + n) (ap (count_below (digit digits)) e ∙ t.before) ∙ m.passed;
      }

  -- a set bit is within the bytes
  pub word-there : word * 8 < length bits
  word-there =
      let p = word-placed (nth_with (digit digits) 64 left) refl in
      ⊎_elim (λ e. absurd (true≢false (sym p.set ∙ sym (bit_past bits _ (omega (arith, e.1)))))) (λ e. omega (arith, e.1)) (split-le (length bits) (word * 8))

-- ---- the words of a block, from first on

-- those before word are passed, and left set bits are left
pub record Passing (bits : List ℕ) (first k word left : ℕ) : Type 0 where
  pub from : first ≤ word
  pub within : word ≤ first + 8
  pub passed : set_below bits (word * 64) + left ≡ k

module _ (bits : List ℕ) (all : Bytes bits) (first k word left : ℕ) (m : Passing bits first k word left) (x : ℕ) (e : x ≡ number_at 8 bits (word * 8)) (c : ℕ) (d : Ones x c) where
  pub pass-found : left < c → InWord bits k word x left
  pass-found h =
      let s : x % 2 ^ 64 ≡ x = omega (arith, e, number_at-bound 8 bits (word * 8) all) in
      record { read = e; passed = m.passed; inside = rw (digits-ones x 64, s) (omega (arith, d.value)) }

  pub pass-next : word < first + 8 → c ≤ left → Passing bits first k (word + 1) (left - c)
  pass-next h l =
      record { from = omega (arith, m.from); within = omega arith; passed = omega (arith, m.passed, d.value, rw (← e) at (set_word bits word all)) }

pub pass-start : (bits : List ℕ) (first left : ℕ) → Passing bits first (set_below bits (first * 64) + left) first left
pass-start bits first left = record { from = omega arith; within = omega arith; passed = refl }

pub pass-end : (bits : List ℕ) (first k word left : ℕ) → Passing bits first k word left → first + 8 ≤ word → set_below bits ((first + 8) * 64) ≤ k
pass-end bits first k word left m h = let e : word ≡ first + 8 = omega (arith, m.within) in omega (arith, rw e at m.passed)

-- the words of a block from first on, as whole words
module _ (bits : List ℕ) (ws : List (List ℕ)) (w : WholeWords bits ws) (first j : ℕ) (l : first + 8 ≤ length ws) (h : j < length (take (first + 8 - first) (drop first ws))) where
  pub whole-within : j < 8
  whole-within = omega (arith, h, length-take (first + 8 - first) (drop first ws))

  pub whole-read : (x : ℕ) → x ≡ from_le (get_or (take (first + 8 - first) (drop first ws)) j []) → x ≡ number_at 8 bits ((first + j) * 8)
  whole-read x e =
      let i : j < first + 8 - first = omega (arith, whole-within) in
      e ∙ rw (get_or-take (first + 8 - first) (drop first ws) j [] i, get_or-drop first ws j []) (w.each (first + j) (omega (arith, whole-within)))

pub next-place : (bits : List ℕ) (first k j left : ℕ) → Passing bits first k (first + j + 1) left → Passing bits first k (first + (j + 1)) left
next-place bits first k j left m = let e : first + (j + 1) ≡ first + j + 1 = omega arith in rw e m

-- ---- the directory

module _ (bits directory : List ℕ) (end : ℕ) (en : directory ≡ counts 512 bits 0 (length directory)) (size : length directory ≡ end / 512 + 1) where
  entry : (i : ℕ) → i < length directory → get_or directory i 0 ≡ set_below bits (i * 512)
  entry i h = ap (λ (ws : List ℕ). get_or ws i 0) en ∙ entry-is 512 bits (length directory) i h

  climbs : NonDecreasing directory
  climbs i j h l = omega (arith, entry i (omega arith), entry j l, set-mono bits (i * 512) (j * 512) (mul-le-mul_right 512 h))

  module _ (k n : ℕ) (s : n ≡ searched k directory) where
    count : n ≡ upper_bound k directory
    count = s ∙ searched-nondecreasing directory k climbs

    -- the first entry is 0
    pub select-some : 1 ≤ n
    select-some =
        ⊎_elim (λ e. omega (arith, e.1))
        (λ e. let z : n ≡ 0 = omega (arith, e.1) in
        let u : k < get_or directory 0 0 = rw (sym count ∙ z) at (upper_bound-next k directory (omega (arith, count, size))) in
        absurd (omega (arith, u, entry 0 (omega (arith, size)), set-le bits (0 * 512)))) (split-le 1 n)

    pub select-there : n - 1 < length directory
    select-there = omega (arith, select-some, count, upper_bound-le k directory)

    pub select-order : get_or directory (n - 1) 0 ≤ k
    select-order = upper_bound-front k directory (n - 1) (omega (arith, select-some, count))

    -- the set bits before the block
    pub select-entry : get_or directory (n - 1) 0 ≡ set_below bits ((n - 1) * 8 * 64)
    select-entry = let e : (n - 1) * 512 ≡ (n - 1) * 8 * 64 = omega arith in rw e at (entry (n - 1) select-there)

    pub select-left : set_below bits ((n - 1) * 8 * 64) + (k - get_or directory (n - 1) 0) ≡ k
    select-left = omega (arith, select-order, select-entry)

    -- the bit is in no later block: the entry of the next one is above k, or there is none
    pub select-past-block : set_below bits (((n - 1) * 8 + 8) * 64) ≤ k → set_below bits end ≤ k
    select-past-block h =
        let p : ((n - 1) * 8 + 8) * 64 ≡ n * 512 = omega (arith, select-some) in
        ⊎_elim
        (λ e. absurd (omega (arith, rw (sym count) at (upper_bound-next k directory (omega (arith, count, e.1))), entry n (omega (arith, e.1)), rw p at h)))
        (λ e. omega (arith, rw p at h, set-mono bits end (n * 512) (omega (arith, e.1, size))))
        (split-le (suc n) (length directory))

    pub block-none : set_below bits (((n - 1) * 8 + 8) * 64) ≤ set_below bits ((n - 1) * 8 * 64) + (k - get_or directory (n - 1) 0) → None ≡ option_of (bit_select bits end k)
    block-none h = option-none (bit_select bits end k) (sym (select-none bits end k (select-past-block (omega (arith, h, select-left)))))

    -- the bit is in the block, at or past the end, or below it
    module _ (p : ℕ) (m : Placed bits (set_below bits ((n - 1) * 8 * 64) + (k - get_or directory (n - 1) 0)) p) where
      pub place-past : end ≤ p → None ≡ option_of (bit_select bits end k)
      place-past h = option-none (bit_select bits end k) (sym (select-past bits end k p (rw select-left at m) h))

      pub place-done : p < end → end ≤ none → Some p ≡ option_of (bit_select bits end k)
      place-done h l = option-some _ _ (sym (select-is bits end k p (rw select-left at m) h)) (λ z. omega arith)
