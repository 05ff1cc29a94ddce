-- The text of well-formed lines is accepted, and its steps are theirs.
use mathlib.Core.Path.{◌≡◌, refl, sym, ap, ◌∙◌}
use mathlib.Core.Bool.{true}
use mathlib.Core.List.{List, [], ◌∷◌, ◌++◌, append_assoc}
use Prim.Native.Nat.{ℕ, zero, suc, ◌+◌, ◌-◌, ◌*◌, ◌^◌, ◌≤◌, ◌<◌}
use native.Mathlib.Nat.{add-mul, mul_assoc, pow-succ'}
use native.Mathlib.Omega.{arith}
use borrow.Author.Tests.{le-leb, lt-ltb, eq-eqb, ne_eqb}
use lib.ListN.{length, take, drop, get_or, length-append}
use lib.Seq.{take-append_seam, drop_at, get_or_at}
use Rattle.fields.specs.Refusal.{when, ◌then◌}
use Rattle.fields.specs.Directory.{same}
use Rattle.run_list.specs.Rising.{All}
use Rattle.report.specs.Lines.{starts, word_kind, word_length, is_digit, digit_count, number_from, value_of, value_good, after_word, line_kind, line_value, line_length, lines_fault, lines_steps}
use Rattle.report.specs.Grammar.{FilterLine, word, Digit, number_of, WellFormed, AllWellFormed, line_text, lines_text, steps_of}
use Rattle.report.proofs.AllLines.{faults-step, steps-step, faults-end, steps-end}
use Rattle.report.proofs.PrintRead.{count-digits, number-front}

-- ---- words: none starts another, so that each is read as its own kind

pub word_read : (k : ℕ) → 1 ≤ k → k ≤ 4 → (rest : List ℕ) → word_kind (word k ++ rest) ≡ k
unfolding word word_kind starts same
word_read zero l h rest = absurd (omega arith)
word_read (suc zero) l h rest = refl
word_read (suc (suc zero)) l h rest = refl
word_read (suc (suc (suc zero))) l h rest = refl
word_read (suc (suc (suc (suc zero)))) l h rest = refl
word_read (suc (suc (suc (suc (suc k))))) l h rest = absurd (omega arith)

pub word_size : (k : ℕ) → 1 ≤ k → k ≤ 4 → length (word k) ≡ word_length k
unfolding word word_length
word_size zero l h = absurd (omega arith)
word_size (suc zero) l h = refl
word_size (suc (suc zero)) l h = refl
word_size (suc (suc (suc zero))) l h = refl
word_size (suc (suc (suc (suc zero)))) l h = refl
word_size (suc (suc (suc (suc (suc k))))) l h = absurd (omega arith)

-- ---- values

-- digits that are read after x
pub number-of : (ds : List ℕ) (x : ℕ) → number_from x (length ds) ds ≡ x * 10 ^ length ds + number_of ds
unfolding number_from number_of
number-of [] x = omega arith
number-of (c ∷ ds) x =
    let p = 10 ^ length ds in
    let d = c - 48 in
    let e : (x * 10 + d) * p ≡ x * (10 * p) + d * p = add-mul (x * 10) d p ∙ rw (mul_assoc x 10 p) in
    number-of ds (x * 10 + d) ∙ rw (e, pow-succ' 10 (length ds)) (omega arith)

all_digits : (ds : List ℕ) → All Digit ds → All (λ c. is_digit c ≡ true) ds
all_digits [] h = tt
all_digits (c ∷ ds) h = (rw (le-leb 48 c h.0.0, le-leb c 57 h.0.1) refl, all_digits ds h.1)

module _ (ds rest : List ℕ) (all : All Digit ds) where
  value-count : digit_count (ds ++ (10 ∷ rest)) ≡ length ds
  value-count = count-digits ds 10 rest (all_digits ds all) refl

  value-number : value_of (ds ++ (10 ∷ rest)) ≡ number_of ds
  unfolding value_of
  value-number = rw value-count (number-front ds (10 ∷ rest) 0 ∙ number-of ds 0 ∙ omega arith)

  value_written : 1 ≤ length ds → length ds ≤ 20 → number_of ds < 2 ^ 64 → value_good (ds ++ (10 ∷ rest)) ≡ true
  unfolding value_good
  value_written some few small =
      let v = ds ++ (10 ∷ rest) in
      let end : get_or v (digit_count v) 0 ≡ 10 = rw value-count (get_or_at ds 10 rest 0 (length ds) refl) in
      rw (le-leb 1 (digit_count v) (omega (arith, value-count)), le-leb (digit_count v) 20 (omega (arith, value-count)), lt-ltb (value_of v) (2 ^ 64) (omega (arith, value-number)), eq-eqb (get_or v (digit_count v) 0) 10 end)

-- ---- a line, and the text after it

pub line-parts : (line : FilterLine) (rest : List ℕ) → line_text line ++ rest ≡ word line.kind ++ (line.digits ++ (10 ∷ rest))
unfolding line_text
line-parts line rest =
    append_assoc (word line.kind) (line.digits ++ (10 ∷ [])) rest ∙ ap (λ (l : List ℕ). word line.kind ++ l) (append_assoc line.digits (10 ∷ []) rest)

-- the line that a text starts with
abbrev pub line_of : List ℕ → FilterLine
line_of text = record { kind = word_kind text; digits = take (digit_count (after_word (word_kind text) text)) (after_word (word_kind text) text) }

module _ (line : FilterLine) (w : WellFormed line) (rest : List ℕ) where
  known : word_kind (word line.kind ++ (line.digits ++ (10 ∷ rest))) ≡ line.kind
  known = word_read line.kind w.first w.last (line.digits ++ (10 ∷ rest))

  value : drop (word_length line.kind) (word line.kind ++ (line.digits ++ (10 ∷ rest))) ≡ line.digits ++ (10 ∷ rest)
  value = drop_at (word line.kind) (line.digits ++ (10 ∷ rest)) (word_length line.kind) (word_size line.kind w.first w.last)

  some-kind : line.kind ≡ 0 → ⊥
  some-kind e = absurd (omega (arith, w.first))

  line-kind : line_kind (line_text line ++ rest) ≡ line.kind
  unfolding line_kind
  line-kind =
      rw (line-parts line rest, known, value, ne_eqb line.kind 0 some-kind, value_written line.digits rest w.digits w.some w.few w.small)

  line-value : line_value (line_text line ++ rest) ≡ number_of line.digits
  unfolding line_value
  line-value = rw (line-parts line rest, known, value) (value-number line.digits rest w.digits)

  line-again : line_of (line_text line ++ rest) ≡ line
  line-again = rw (line-parts line rest, known, value, value-count line.digits rest w.digits, take-append_seam line.digits (10 ∷ rest))

  line-size : length (line_text line) ≡ line_length (line_text line ++ rest)
  unfolding line_length line_text
  line-size =
      rw (line-parts line rest, known, value, value-count line.digits rest w.digits)
      (simp length-append (omega (arith, word_size line.kind w.first w.last)))

  line-rest : drop (line_length (line_text line ++ rest)) (line_text line ++ rest) ≡ rest
  line-rest = drop_at (line_text line) rest (line_length (line_text line ++ rest)) line-size

  line-more : 1 + length rest ≤ length (line_text line ++ rest)
  line-more = rw (line-parts line rest) (simp length-append (omega arith))

-- ---- all lines

pub lines_none : (ls : List FilterLine) → AllWellFormed ls → (n : ℕ) → length (lines_text ls) ≤ n → lines_fault n (lines_text ls) ≡ 0
unfolding lines_text when ◌then◌
lines_none [] w n h = faults-end n [] refl
lines_none (l ∷ ls) w zero h = absurd (omega (arith, line-more l w.0 (lines_text ls)))
lines_none (l ∷ ls) w (suc n) h =
    faults-step n (line_text l ++ lines_text ls) (λ e. absurd (omega (arith, e, line-more l w.0 (lines_text ls))))
    ∙ rw (line-kind l w.0 (lines_text ls), ne_eqb l.kind 0 (some-kind l w.0 (lines_text ls)), line-rest l w.0 (lines_text ls))
    (lines_none ls w.1 n (omega (arith, line-more l w.0 (lines_text ls))))

pub lines_text-steps : (ls : List FilterLine) → AllWellFormed ls → (n : ℕ) → length (lines_text ls) ≤ n → lines_steps n (lines_text ls) ≡ steps_of ls
unfolding lines_text steps_of
lines_text-steps [] w n h = steps-end n [] refl
lines_text-steps (l ∷ ls) w zero h = absurd (omega (arith, line-more l w.0 (lines_text ls)))
lines_text-steps (l ∷ ls) w (suc n) h =
    steps-step n (line_text l ++ lines_text ls) (λ e. absurd (omega (arith, e, line-more l w.0 (lines_text ls))))
    ∙ rw (
      line-kind l w.0 (lines_text ls),
      line-value l w.0 (lines_text ls),
      line-rest l w.0 (lines_text ls),
      lines_text-steps ls w.1 n (omega (arith, line-more l w.0 (lines_text ls))),
    )

-- no text is that of two lists of lines
pub lines_same : (ls ms : List FilterLine) → AllWellFormed ls → AllWellFormed ms → lines_text ls ≡ lines_text ms → ls ≡ ms
unfolding lines_text
lines_same [] [] v w e = refl
lines_same [] (m ∷ ms) v w e = absurd (omega (arith, ap length e, line-more m w.0 (lines_text ms)))
lines_same (l ∷ ls) [] v w e = absurd (omega (arith, ap length e, line-more l v.0 (lines_text ls)))
lines_same (l ∷ ls) (m ∷ ms) v w e =
    let a : l ≡ m = sym (line-again l v.0 (lines_text ls)) ∙ ap line_of e ∙ line-again m w.0 (lines_text ms) in
    let b : lines_text ls ≡ lines_text ms = sym (line-rest l v.0 (lines_text ls)) ∙ ap (λ (t : List ℕ). drop (line_length t) t) e ∙ line-rest m w.0 (lines_text ms) in
    rw (a, lines_same ls ms v.1 w.1 b)
