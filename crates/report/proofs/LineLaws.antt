-- Reading lines: words, digits and numbers at the front of a text. One law for each way through the code.
use mathlib.Core.Path.{◌≡◌, refl, sym, ◌∙◌}
use mathlib.Core.Bool.{Bool, true, false, cond, not}
use mathlib.Core.Logic.{⊎_elim}
use mathlib.Core.List.{List, [], ◌∷◌}
use Prim.Native.Nat.{ℕ, zero, suc, ◌+◌, ◌-◌, ◌*◌, ◌^◌, ◌≤◌, ◌<◌}
use native.Mathlib.Numerals.{add-one}
use native.Mathlib.Omega.{arith}
use borrow.Author.Tests.{lt-ltb, le-ltb}
use lib.ListN.{length, take, drop, get_or}
use lib.Seq.{drop-cons}
use Rattle.std.proofs.Common.{nat_eq, unwrap_or}
use Rattle.std.specs.Cmp.Lexicographic.{pointwise}
use Rattle.std.specs.List.{position, position_or_len}
use Rattle.std.proofs.lemmas.List.Recursion.{is_position_or_len}
use Rattle.fields.specs.Directory.{same}
use Rattle.fields.proofs.Tests.{split-le}
use Rattle.report.specs.Lines.{take_word, and_word, or_word, without_word, starts, word_kind, word_length, is_digit, digit_count, number_from}
use Rattle.report.specs.Inner.{SplitsWord}

-- ---- words

pointwise-same : (a b : List ℕ) → pointwise nat_eq a b ≡ same a b
unfolding same
pointwise-same [] [] = refl
pointwise-same [] (y ∷ b) = refl
pointwise-same (x ∷ a) [] = refl
pointwise-same (x ∷ a) (y ∷ b) = rw (pointwise-same a b)

-- what `strip_prefix` says where a word stands at the front, and where none does
abbrev pub Stripped : List ℕ → List ℕ → List ℕ → Type 0
Stripped l word rest = (pointwise nat_eq (take (length word) l) word ≡ true) × (rest ≡ drop (length word) l) × (length rest + length word ≡ length l)

abbrev pub Other : List ℕ → List ℕ → Type 0
Other l word = pointwise nat_eq (take (length word) l) word ≡ false

module _ (l : List ℕ) where
  starts-are : (word : List ℕ) (t : Bool) → pointwise nat_eq (take (length word) l) word ≡ t → starts word l ≡ t
  unfolding starts
  starts-are word t e = sym (pointwise-same (take (length word) l) word) ∙ e

  pub word-take : (rest : List ℕ) → Stripped l take_word rest → SplitsWord l 1 rest
  unfolding word_kind word_length
  word-take rest s = record { is = rw (starts-are take_word true s.0); some = λ q. absurd (omega (arith, q)); onward = s.1; size = s.2 }

  module _ (a : Other l take_word) where
    pub word-and : (rest : List ℕ) → Stripped l and_word rest → SplitsWord l 2 rest
    unfolding word_kind word_length
    word-and rest s =
        record { is = rw (starts-are take_word false a, starts-are and_word true s.0); some = λ q. absurd (omega (arith, q)); onward = s.1; size = s.2 }

    module _ (b : Other l and_word) where
      pub word-or : (rest : List ℕ) → Stripped l or_word rest → SplitsWord l 3 rest
      unfolding word_kind word_length
      word-or rest s =
          record {
            is = rw (starts-are take_word false a, starts-are and_word false b, starts-are or_word true s.0);
            some = λ q. absurd (omega (arith, q));
            onward = s.1;
            size = s.2;
          }

      module _ (c : Other l or_word) where
        pub word_without : (rest : List ℕ) → Stripped l without_word rest → SplitsWord l 4 rest
        unfolding word_kind word_length
        word_without rest s =
            record {
              is = rw (starts-are take_word false a, starts-are and_word false b, starts-are or_word false c, starts-are without_word true s.0);
              some = λ q. absurd (omega (arith, q));
              onward = s.1;
              size = s.2;
            }

        pub word-none : Other l without_word → word_kind l ≡ 0
        unfolding word_kind
        word-none d = rw (starts-are take_word false a, starts-are and_word false b, starts-are or_word false c, starts-are without_word false d)

-- ---- digits

-- the place of the first byte that is no digit
digits-place : (l : List ℕ) → digit_count l ≡ position_or_len (λ c. not (is_digit c)) l
unfolding digit_count
digits-place l = is_position_or_len digit_count (λ c. not (is_digit c)) refl (λ x xs. by (is_digit x) (digit_count xs)) l
  where
    by : (t : Bool) (n : ℕ) → cond t (suc n) 0 ≡ cond (not t) 0 (1 + n)
    by true n = omega arith
    by false n = refl

pub count-within : (l : List ℕ) → digit_count l ≤ length l
unfolding digit_count
count-within [] = omega arith
count-within (c ∷ l) = by (is_digit c) (count-within l)
  where
    by : (t : Bool) → digit_count l ≤ length l → cond t (suc (digit_count l)) 0 ≤ suc (length l)
    by true h = omega arith
    by false h = omega arith

pub digits-counted : (l : List ℕ) → unwrap_or (position (λ c. not (is_digit c)) l) (length l) ≡ digit_count l
digits-counted l =
    ⊎_elim
    (λ e. rw (le-ltb (position_or_len (λ c. not (is_digit c)) l) (length l) (omega (arith, e.1, digits-place l))) (omega (arith, e.1, count-within l)))
    (λ e. rw (lt-ltb (position_or_len (λ c. not (is_digit c)) l) (length l) (omega (arith, e.1, digits-place l))) (sym (digits-place l)))
    (split-le (length l) (digit_count l))

-- ---- numbers

-- the number of the digits alone is that of the digits at the front
pub number-take : (n x : ℕ) (l : List ℕ) → number_from x n l ≡ number_from x (length (take n l)) (take n l)
unfolding number_from
number-take zero x l = refl
number-take (suc n) x [] = refl
number-take (suc n) x (c ∷ l) = number-take n (x * 10 + (c - 48)) l

-- further digits make no number less
pub number_more : (n x : ℕ) (l : List ℕ) → x ≤ number_from x n l
unfolding number_from
number_more zero x l = omega arith
number_more (suc n) x [] = omega arith
number_more (suc n) x (c ∷ l) = omega (arith, number_more n (x * 10 + (c - 48)) l)

-- the digits from i on are still to be read
pub record Numbering (digits : List ℕ) (x i : ℕ) : Type 0 where
  pub within : i ≤ length digits
  pub small : x < 2 ^ 64
  pub rest : number_from x (length digits - i) (drop i digits) ≡ number_from 0 (length digits) digits

module _ (digits : List ℕ) where
  module _ (x i : ℕ) (m : Numbering digits x i) where
    module _ (h : i < length digits) where
      next : number_from (x * 10 + (get_or digits i 0 - 48)) (length digits - (i + 1)) (drop (i + 1) digits) ≡ number_from 0 (length digits) digits
      unfolding number_from
      next =
          let a : length digits - i ≡ suc (length digits - suc i) = omega arith in
          rw (add-one i) (rw (a, drop-cons digits i 0 h) at m.rest)

      pub numbering-full : ¬ (x * 10 + (get_or digits i 0 - 48) < 2 ^ 64) → ¬ (number_from 0 (length digits) digits < 2 ^ 64)
      numbering-full k q =
          k (omega (arith, q, next, number_more (length digits - (i + 1)) (x * 10 + (get_or digits i 0 - 48)) (drop (i + 1) digits)))

      pub numbering-times_full : ¬ (x * 10 < 2 ^ 64) → ¬ (number_from 0 (length digits) digits < 2 ^ 64)
      numbering-times_full k = numbering-full (λ q. k (omega (arith, q)))

      pub numbering-next : x * 10 + (get_or digits i 0 - 48) < 2 ^ 64 → Numbering digits (x * 10 + (get_or digits i 0 - 48)) (i + 1)
      numbering-next k = record { within = omega arith; small = k; rest = next }

    pub numbering-end : length digits ≤ i → x ≡ number_from 0 (length digits) digits
    unfolding number_from
    numbering-end h =
        let z : length digits - i ≡ 0 = omega arith in
        rw z at m.rest

    pub numbering-fits : length digits ≤ i → number_from 0 (length digits) digits < 2 ^ 64
    numbering-fits h = omega (arith, numbering-end h, m.small)
