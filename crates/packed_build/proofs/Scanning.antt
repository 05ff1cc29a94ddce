-- Packed bits by 64-bit words: the boundaries of a word are the set digits of a number, and the loop over the words, one law for each way
-- through the code.
use mathlib.Core.Path.{◌≡◌, refl, sym, ap, ◌∙◌}
use mathlib.Core.Bool.{Bool, false}
use mathlib.Core.List.{List, [], ◌++◌}
use Prim.Native.Nat.{ℕ, zero, suc, ◌+◌, ◌-◌, ◌*◌, ◌/◌, ◌%◌, ◌^◌, ◌≤◌, ◌<◌}
use native.Mathlib.Nat.{zero-add, add-zero, add-suc, suc-add, pow-succ', div-div-eq-div-mul, div-one}
use native.Mathlib.Omega.{arith}
use borrow.Author.Tests.{eqb-false}
use lib.Bits.{bit_xor, differ, xor_step, xor_mod}
use lib.Dec.{eqb}
use lib.ListN.{length, get_or, length-append}
use lib.Seq.{sets, length-sets}
use mir.Val.{Fits}
use mir.Syntax.{w8}
use Rattle.fields.specs.Bytes.{number_at, Bytes}
use Rattle.fields.proofs.Numbers.{number_at-bound, sets-append}
use Rattle.packed.specs.Bits.{bit_at}
use Rattle.packed.proofs.Digits.{number-digit}
use Rattle.boundary.specs.Merge.{emit}
use Rattle.fields.specs.Answers.{Stored, StoredAt}
use Rattle.packed_build.specs.Packed.{changes, list_of}
use Rattle.packed_build.specs.Marks.{mark, marks, changes_at}
use Rattle.packed_build.proofs.PackedLaws.{bit_at-past}
use Rattle.packed_build.proofs.Marking.{marks-length, marks-mod}

-- ---- rows at which nothing is set

changes-none : (f : ℕ → Bool) (b : Bool) (r n : ℕ) → ((x : ℕ) → r ≤ x → f x ≡ false) → changes f b r n ≡ emit b false r []
changes-none f b r zero h = refl
changes-none f b r (suc n) h = rw (h r (omega arith), changes-none f false (suc r) n (λ x k. h x (omega arith)))

-- rows past the last set one change nothing
changes-past : (f : ℕ → Bool) (b : Bool) (r m n : ℕ) → ((x : ℕ) → r + m ≤ x → f x ≡ false) → changes f b r (m + n) ≡ changes f b r m
changes-past f b r zero n h = rw (zero-add n) (changes-none f b r n (λ x k. h x (omega arith)))
changes-past f b r (suc m) n h = rw (suc-add m n, changes-past f (f r) (suc r) m n (λ x k. h x (omega arith)))

-- ---- the changes of a word: its digits against the same ones a place up, with the digit before them

differ-emit : (x c r : ℕ) (ws : List ℕ) → x < 2 → c < 2 → emit (eqb c 1) (eqb x 1) r ws ≡ mark (differ x c) r ws
differ-emit zero zero r ws h k = refl
differ-emit zero (suc zero) r ws h k = refl
differ-emit zero (suc (suc c)) r ws h k = absurd (omega arith)
differ-emit (suc zero) zero r ws h k = refl
differ-emit (suc zero) (suc zero) r ws h k = refl
differ-emit (suc zero) (suc (suc c)) r ws h k = absurd (omega arith)
differ-emit (suc (suc x)) c r ws h k = absurd (omega arith)

mark-append : (d r : ℕ) (xs ys : List ℕ) → mark d r (xs ++ ys) ≡ mark d r xs ++ ys
mark-append zero r xs ys = refl
mark-append (suc d) r xs ys = refl

differ-small : (x c : ℕ) → x < 2 → c < 2 → differ x c < 2
differ-small zero c h k = k
differ-small (suc x) zero h k = h
differ-small (suc x) (suc c) h k = differ-small x c (omega arith) (omega arith)

-- the last of the m lowest digits of w, or c where m is 0
top : ℕ → ℕ → ℕ → ℕ
top zero w c = c
top (suc m) w c = top m (w / 2) (w % 2)

top-last : (m w c : ℕ) → top (suc m) w c ≡ w / 2 ^ m % 2
unfolding top
top-last zero w c = rw (div-one w)
top-last (suc m) w c = top-last m (w / 2) (w % 2) ∙ rw (div-div-eq-div-mul w 2 (2 ^ m), ← pow-succ' 2 m)

digits-changes : (f : ℕ → Bool) (m n r w c : ℕ) → c < 2 → ((j : ℕ) → j < m → eqb (w / 2 ^ j % 2) 1 ≡ f (r + j))
    → changes f (eqb c 1) r (m + n) ≡ marks m r (bit_xor w (w * 2 + c)) ++ changes f (eqb (top m w c) 1) (r + m) n
unfolding top marks
digits-changes f zero n r w c k h = rw (zero-add n, add-zero r)
digits-changes f (suc m) n r w c k h =
    let x = bit_xor (w / 2) (w / 2 * 2 + w % 2) in
    let first : f r ≡ eqb (w % 2) 1 = sym (rw (div-one w, add-zero r) at (h 0 (omega arith))) in
    let more = digits-changes f m n (suc r) (w / 2) (w % 2) (omega arith)
    (λ j l. rw (div-div-eq-div-mul w 2 (2 ^ j), ← pow-succ' 2 j, suc-add r j, ← add-suc r j) (h (suc j) (omega arith))) in
    let up : (w * 2 + c) / 2 ≡ w / 2 * 2 + w % 2 = omega arith in
    let low : (w * 2 + c) % 2 ≡ c = omega arith in
    let step : bit_xor w (w * 2 + c) ≡ x * 2 + differ (w % 2) c = rw (up, low) at (xor_step w (w * 2 + c)) in
    let d = differ-small (w % 2) c (omega arith) k in
    let p : (x * 2 + differ (w % 2) c) % 2 ≡ differ (w % 2) c = omega arith in
    let q : (x * 2 + differ (w % 2) c) / 2 ≡ x = omega arith in
    rw (suc-add m n, first, more, step, p, q, differ-emit (w % 2) c r (marks m (suc r) x ++ changes f (eqb (top m (w / 2) (w % 2)) 1) (suc r + m) n) (omega arith) k, suc-add r m, add-suc r m)
    (mark-append (differ (w % 2) c) r (marks m (suc r) x) (changes f (eqb (top m (w / 2) (w % 2)) 1) (suc (r + m)) n))

-- ---- the loop: what is still to come, written after what is written, is the list

-- the boundaries from word i on, of words in all
pub rest : List ℕ → ℕ → ℕ → ℕ → List ℕ
rest bits words i carry = changes (bit_at bits) (eqb carry 1) (i * 64) ((words - i) * 64)

pub record Scanning (bits out₀ : List ℕ) (words i carry k : ℕ) (out : List ℕ) : Type 0 where
  pub past : length bits < words * 8
  pub few : words ≤ 67108864
  pub place : i < words
  pub digit : carry < 2
  pub bound : k ≤ i * 64
  pub room : length out ≡ length out₀
  pub number : k + length (rest bits words i carry) ≡ length (list_of bits)
  pub written : sets out k (rest bits words i carry) ≡ sets out₀ 0 (list_of bits)

module _ (bits out₀ : List ℕ) where
  pub scanning-start : (words : ℕ) → 0 < words → length bits < words * 8 → words ≤ 67108864 → Scanning bits out₀ words 0 0 0 out₀
  unfolding rest list_of
  scanning-start words p h l =
      let n = words * 64 - length bits * 8 in
      let sum : (words - 0) * 64 ≡ length bits * 8 + n = omega arith in
      let all : rest bits words 0 0 ≡ list_of bits = rw sum (changes-past (bit_at bits) false 0 (length bits * 8) n (λ x k. bit_at-past bits x (omega arith))) in
      record {
        past = h;
        few = l;
        place = omega arith;
        digit = omega arith;
        bound = omega arith;
        room = refl;
        number = rw all (omega arith);
        written = rw all;
      }

  module _ (words i carry k : ℕ) (out : List ℕ) (m : Scanning bits out₀ words i carry k out) where
    module _ (fits : (j : ℕ) → Fits w8 (get_or bits j 0)) (w : ℕ) (e : w ≡ number_at 8 bits (i * 8)) where
      all : Bytes bits
      all j = omega (arith, fits j)

      small : w < 2 ^ 64
      small = omega (arith, number_at-bound 8 bits (i * 8) all)

      digits : (j : ℕ) → j < 64 → eqb (w / 2 ^ j % 2) 1 ≡ bit_at bits (i * 64 + j)
      digits j l =
          let p : i * 8 * 8 + j ≡ i * 64 + j = omega arith in
          rw (e, ← p) (number-digit 8 bits (i * 8) j all (omega arith))

      -- the last digit of the last word is past the bytes
      ends : words ≤ i + 1 → w / 2 ^ 63 ≡ 0
      ends l =
          let z = eqb-false (w / 2 ^ 63 % 2) 1 (digits 63 (omega arith) ∙ bit_at-past bits (i * 64 + 63) (omega (arith, m.past))) in
          omega (arith, small, z)

      -- the code's number, which has no digit past 64
      same : changes_at i w carry ≡ marks 64 (i * 64) (bit_xor w (w * 2 + carry))
      same =
          let cut : w * 2 ^ 1 % 2 ^ 64 + carry ≡ (w * 2 + carry) % 2 ^ 64 = omega (arith, m.digit) in
          let whole : w % 2 ^ 64 ≡ w = omega (arith, small) in
          rw (cut, ← (rw whole at (xor_mod w (w * 2 + carry) 64))) (marks-mod 64 (i * 64) (bit_xor w (w * 2 + carry)))

      word-step : rest bits words i carry ≡ changes_at i w carry ++ rest bits words (i + 1) (w / 2 ^ 63)
      unfolding rest
      word-step =
          let sum : (words - i) * 64 ≡ 64 + (words - (i + 1)) * 64 = omega (arith, m.place) in
          let next : i * 64 + 64 ≡ (i + 1) * 64 = omega arith in
          let last : top 64 w carry ≡ w / 2 ^ 63 = top-last 63 w carry ∙ omega (arith, small) in
          rw (sum, same) (rw (last, next) at (digits-changes (bit_at bits) 64 ((words - (i + 1)) * 64) (i * 64) w carry m.digit digits))

      module _ (k' : ℕ) (out' : List ℕ) (v : StoredAt (changes_at i w carry) out k k' out') where
        new : List ℕ
        new = changes_at i w carry

        more : List ℕ
        more = rest bits words (i + 1) (w / 2 ^ 63)

        number : k' + length more ≡ length (list_of bits)
        unfolding new more
        number = omega (arith, rw word-step at m.number, length-append new more, v.next)

        written : sets out' k' more ≡ sets out₀ 0 (list_of bits)
        unfolding new more
        written = rw (v.next, v.written, ← (sets-append out k new more), ← word-step) m.written

        pub scanning-next : i + 1 < words → Scanning bits out₀ words (i + 1) (w / 2 ^ 63) k' out'
        unfolding new more
        scanning-next h =
            record {
              past = m.past;
              few = m.few;
              place = h;
              digit = omega (arith, small);
              bound = omega (arith, m.bound, v.next, marks-length 64 (i * 64) (bit_xor w (w * 2 ^ 1 % 2 ^ 64 + carry)));
              room = ap length v.written ∙ length-sets out k new ∙ m.room;
              number = number;
              written = written;
            }

        pub scanning-last : words ≤ i + 1 → Stored (list_of bits) out₀ k' out'
        unfolding rest more
        scanning-last h =
            let z : words - (i + 1) ≡ 0 = omega arith in
            let none : more ≡ [] = rw (z, ends h) in
            record { number = omega (arith, rw none at number); written = rw none at written }
