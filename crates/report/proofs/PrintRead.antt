-- What is printed: how long it is, and that a printed number is read as itself.
use mathlib.Core.Path.{◌≡◌, refl, sym, ap, subst, ◌∙◌}
use mathlib.Core.Bool.{true, false}
use mathlib.Core.Logic.{⊎_elim}
use mathlib.Core.List.{List, [], ◌∷◌, ◌++◌, append-nil}
use Prim.Native.Nat.{ℕ, zero, suc, ◌+◌, ◌-◌, ◌*◌, ◌/◌, ◌%◌, ◌^◌, ◌≤◌, ◌<◌}
use native.Mathlib.Omega.{arith}
use borrow.Author.Tests.{le-leb, lt-ltb, le-ltb}
use lib.ListN.{length, get_or, length-append}
use lib.Seq.{take-append_seam}
use Rattle.std.specs.Fmt as fmt
use Rattle.std.proofs.lemmas.Fmt.{PrependsLastDigit, decimal_from_prepends, decimal_by_steps, first_decimal, length-decimal-le}
use Rattle.fields.proofs.Tests.{split-le}
use Rattle.run_list.specs.Rows.{rows}
use Rattle.run_list.specs.Rising.{All}
use Rattle.bitmap_index.proofs.FilterLaws.{all_append}
use Rattle.report.proofs.LineLaws.{number-take}
use Rattle.report.specs.Lines.{is_digit, digit_count, number_from, value_of}
use Rattle.report.specs.Report.{digits_before, decimal, count_word, refused_word, number_line, run_line, run_lines, kept_text}

-- ---- digits before a text: the last one alone, or after those of the rest

module _ (n x : ℕ) (text : List ℕ) where
  pub digits_last : x ≤ 9 → digits_before (suc n) x text ≡ (48 + x % 10) ∷ text
  unfolding digits_before
  digits_last h = rw (lt-ltb x 10 (omega arith))

  pub digits_more : 9 < x → digits_before (suc n) x text ≡ digits_before n (x / 10) ((48 + x % 10) ∷ text)
  unfolding digits_before
  digits_more h = rw (le-ltb x 10 (omega arith))

-- ---- std's digits of a number are these

last-first : PrependsLastDigit digits_before
last-first =
    record {
      one = λ k n text h. let e : 48 + n % 10 ≡ 48 + n = omega arith in digits_last k n text (omega arith) ∙ ap (λ (c : ℕ). c ∷ text) e;
      more = λ k n text h. digits_more k n text (omega arith);
    }

pub decimal-is : (x : ℕ) → x < 2 ^ 64 → fmt.decimal x ≡ decimal x
unfolding decimal
decimal-is x h =
    sym (append-nil (fmt.decimal x)) ∙ sym (decimal_from_prepends digits_before last-first 20 x [] h (length-decimal-le 20 x (omega arith) (omega arith) h))

-- ---- lengths

digits-length : (n x : ℕ) (text : List ℕ) → length (digits_before n x text) ≤ n + length text
unfolding digits_before
digits-length zero x text = omega arith
digits-length (suc n) x text =
    ⊎_elim
    (λ e. rw (digits_last n x text e.1) (omega arith))
    (λ e. rw (digits_more n x text e.1) (omega (arith, digits-length n (x / 10) ((48 + x % 10) ∷ text))))
    (split-le x 9)

pub decimal-length : (x : ℕ) → length (decimal x) ≤ 20
unfolding decimal
decimal-length x = omega (arith, digits-length 20 x [])

pub number-length : (word : List ℕ) (x : ℕ) → length (number_line word x) ≤ length word + 21
unfolding number_line
number-length word x = simp length-append (omega (arith, decimal-length x))

pub refused-length : (f : ℕ) → length (number_line refused_word f) ≤ 29
refused-length f = number-length refused_word f

pub run_length : (s e : ℕ) → length (run_line s e) ≤ 46
unfolding run_line
run_length s e = simp length-append (omega (arith, decimal-length s, decimal-length e))

runs-length : (ws : List ℕ) → length (run_lines ws) ≤ 46 * (length ws / 2)
unfolding run_lines
runs-length [] = omega arith
runs-length (s ∷ []) = omega arith
runs-length (s ∷ e ∷ ws) = omega (arith, length-append (run_line s e) (run_lines ws), run_length s e, runs-length ws)

pub kept-length : (ws : List ℕ) → length (kept_text ws) ≤ 27 + 46 * (length ws / 2)
unfolding kept_text
kept-length ws =
    omega (arith, length-append (number_line count_word (rows ws)) (run_lines ws), number-length count_word (rows ws), runs-length ws)

-- ---- a printed number is read as itself

-- digits, and then no digit
pub count-digits : (ds : List ℕ) (c : ℕ) (rest : List ℕ) → All (λ d. is_digit d ≡ true) ds → is_digit c ≡ false → digit_count (ds ++ (c ∷ rest)) ≡ length ds
unfolding digit_count
count-digits [] c rest h e = rw e
count-digits (d ∷ ds) c rest h e = rw h.0 (ap suc (count-digits ds c rest h.1 e))

pub number-front : (ds rest : List ℕ) (x : ℕ) → number_from x (length ds) (ds ++ rest) ≡ number_from x (length ds) ds
number-front ds rest x = rw (number-take (length ds) x (ds ++ rest), take-append_seam ds rest)

-- one more digit at the end
number-push : (ds : List ℕ) (c x : ℕ) → number_from x (length (ds ++ (c ∷ []))) (ds ++ (c ∷ [])) ≡ number_from x (length ds) ds * 10 + (c - 48)
unfolding number_from
number-push [] c x = refl
number-push (d ∷ ds) c x = number-push ds c (x * 10 + (d - 48))

-- digits, and their number
record Digits (x : ℕ) (ds : List ℕ) : Type 0 where
  all : All (λ c. is_digit c ≡ true) ds
  number : number_from 0 (length ds) ds ≡ x

digit-byte : (d : ℕ) → d ≤ 9 → is_digit (48 + d) ≡ true
digit-byte d h = rw (le-leb 48 (48 + d) (omega arith), le-leb (48 + d) 57 (omega arith))

digits-one : (n : ℕ) → n < 10 → Digits n ((48 + n) ∷ [])
unfolding number_from
digits-one n h = record { all = (digit-byte n (omega arith), tt); number = omega arith }

digits-push : (n : ℕ) (ds : List ℕ) → 10 ≤ n → Digits (n / 10) ds → Digits n (ds ++ ((48 + n % 10) ∷ []))
digits-push n ds h d =
    record {
      all = all_append (λ c. is_digit c ≡ true) ds ((48 + n % 10) ∷ []) d.all (digit-byte (n % 10) (omega arith), tt);
      number = omega (arith, number-push ds (48 + n % 10) 0, d.number);
    }

decimal-digits : (x : ℕ) → x < 2 ^ 64 → Digits x (decimal x)
decimal-digits x h = subst (Digits x) (decimal-is x h) (decimal_by_steps Digits digits-one digits-push x h)

pub decimal-reads : (x c : ℕ) (rest : List ℕ) → x < 2 ^ 64 → is_digit c ≡ false → value_of (decimal x ++ (c ∷ rest)) ≡ x
unfolding value_of
decimal-reads x c rest h e =
    let d = decimal-digits x h in
    rw (count-digits (decimal x) c rest d.all e, number-front (decimal x) (c ∷ rest) 0) d.number

-- no zero leads, but for 0 itself
pub decimal-lead : (x : ℕ) → 0 < x → x < 2 ^ 64 → 48 < get_or (decimal x) 0 0
decimal-lead x z h = rw (← decimal-is x h) (first_decimal x z h)

-- 0, 2^64 - 1, rows 3 and 4, refusal 10
examples : (decimal 0 ≡ 48 ∷ [])
    × (decimal 18446744073709551615 ≡ 49 ∷ 56 ∷ 52 ∷ 52 ∷ 54 ∷ 55 ∷ 52 ∷ 52 ∷ 48 ∷ 55 ∷ 51 ∷ 55 ∷ 48 ∷ 57 ∷ 53 ∷ 53 ∷ 49 ∷ 54 ∷ 49 ∷ 53 ∷ [])
    × (kept_text (3 ∷ 5 ∷ []) ≡ count_word ++ (50 ∷ 10 ∷ 114 ∷ 117 ∷ 110 ∷ 44 ∷ 51 ∷ 44 ∷ 53 ∷ 10 ∷ []))
    × (number_line refused_word 10 ≡ refused_word ++ (49 ∷ 48 ∷ 10 ∷ []))
unfolding decimal digits_before kept_text number_line run_lines run_line
examples = (refl, refl, refl, refl)
