-- An accepted text is that of well-formed lines.
use mathlib.Core.Path.{◌≡◌, refl, sym, ◌∙◌}
use mathlib.Core.Bool.{Bool, true, false, cond, ◌&&◌, true≢false}
use mathlib.Core.Logic.{◌⊎◌, inl, inr, ⊎_elim}
use mathlib.Core.List.{List, [], ◌∷◌, ◌++◌}
use Prim.Native.Nat.{ℕ, zero, suc, ◌+◌, ◌^◌, ◌≤◌, ◌<◌}
use native.Mathlib.Omega.{arith}
use borrow.Author.Tests.{leb-true, ltb-true, eqb-true, eqb-false, ne_eqb}
use lib.Dec.{leb, ltb, eqb}
use lib.ListN.{length, take, drop, get_or, take-append-drop, length-drop}
use lib.Seq.{split_at, drop-drop, length-take-le}
use Rattle.fields.specs.Refusal.{when, ◌then◌}
use Rattle.fields.proofs.Directories.{same-is}
use Rattle.fields.proofs.Refusals.{front-none, rest-none, when-none}
use Rattle.fields.proofs.Tests.{split-le}
use Rattle.run_list.specs.Rising.{All}
use Rattle.report.specs.Lines.{take_word, and_word, or_word, without_word, starts, word_kind, word_length, is_digit, digit_count, value_of, value_good, after_word, line_kind, line_length, lines_fault}
use Rattle.report.specs.Grammar.{word, Digit, number_of, WellFormed, line_text, lines_text, Written}
use Rattle.report.proofs.LineLaws.{number-take}
use Rattle.report.proofs.LineCalls.{get_d_past}
use Rattle.report.proofs.AllLines.{line-some, faults-step}
use Rattle.report.proofs.GrammarWrite.{number-of, line-parts, line_of}

-- ---- words

-- a text that starts with a word is the word and the text after it
starts-front : (w l : List ℕ) → starts w l ≡ true → w ++ drop (length w) l ≡ l
unfolding starts
starts-front w l e = rw (same-is (take (length w) l) w e) at (take-append-drop (length w) l)

-- the text starts with the word of a kind
record Known (k : ℕ) (l : List ℕ) : Type 0 where
  first : 1 ≤ k
  last : k ≤ 4
  front : word k ++ drop (word_length k) l ≡ l

word-known : (l : List ℕ) → (word_kind l ≡ 0 → ⊥) → Known (word_kind l) l
unfolding word_kind word word_length
word-known l =
    by (starts take_word l) refl (starts and_word l) refl (starts or_word l) refl (starts without_word l) refl
  where
    by : (t : Bool) → starts take_word l ≡ t → (u : Bool) → starts and_word l ≡ u → (v : Bool) → starts or_word l ≡ v → (w : Bool) → starts without_word l ≡ w
        → (◌≡◌ {A = ℕ} (cond t 1 (cond u 2 (cond v 3 (cond w 4 0)))) 0 → ⊥) → Known (cond t 1 (cond u 2 (cond v 3 (cond w 4 0)))) l
    by true e u f v g w h z = record { first = omega arith; last = omega arith; front = starts-front take_word l e }
    by false e true f v g w h z = record { first = omega arith; last = omega arith; front = starts-front and_word l f }
    by false e false f true g w h z = record { first = omega arith; last = omega arith; front = starts-front or_word l g }
    by false e false f false g true h z = record { first = omega arith; last = omega arith; front = starts-front without_word l h }
    by false e false f false g false h z = absurd (z refl)

-- ---- values

digit-is : (c : ℕ) → is_digit c ≡ true → Digit c
digit-is c = by (leb 48 c) refl (leb c 57) refl
  where
    by : (t : Bool) → leb 48 c ≡ t → (u : Bool) → leb c 57 ≡ u → (t && u) ≡ true → Digit c
    by true e true f z = (leb-true 48 c e, leb-true c 57 f)
    by true e false f z = absurd (true≢false (sym z))
    by false e u f z = absurd (true≢false (sym z))

count-front : (l : List ℕ) → All Digit (take (digit_count l) l)
unfolding digit_count
count-front [] = tt
count-front (c ∷ l) = by (is_digit c) refl (count-front l)
  where
    by : (t : Bool) → is_digit c ≡ t → All Digit (take (digit_count l) l) → All Digit (take (cond t (suc (digit_count l)) 0) (c ∷ l))
    by true e h = (digit-is c e, h)
    by false e h = tt

-- the tests that a value passes
record Good (l : List ℕ) : Type 0 where
  some : 1 ≤ digit_count l
  few : digit_count l ≤ 20
  small : value_of l < 2 ^ 64
  end : get_or l (digit_count l) 0 ≡ 10

value-good : (l : List ℕ) → value_good l ≡ true → Good l
unfolding value_good
value-good l =
    by (leb 1 (digit_count l)) refl (leb (digit_count l) 20) refl (ltb (value_of l) (2 ^ 64)) refl (eqb (get_or l (digit_count l) 0) 10) refl
  where
    by : (a : Bool) → leb 1 (digit_count l) ≡ a → (b : Bool) → leb (digit_count l) 20 ≡ b → (c : Bool) → ltb (value_of l) (2 ^ 64) ≡ c
        → (d : Bool) → eqb (get_or l (digit_count l) 0) 10 ≡ d → (a && (b && (c && d))) ≡ true → Good l
    by true e true f true g true h z = record { some = leb-true _ _ e; few = leb-true _ _ f; small = ltb-true _ _ g; end = eqb-true _ _ h }
    by true e true f true g false h z = absurd (true≢false (sym z))
    by true e true f false g d h z = absurd (true≢false (sym z))
    by true e false f c g d h z = absurd (true≢false (sym z))
    by false e b f c g d h z = absurd (true≢false (sym z))

module _ (l : List ℕ) (g : Good l) where
  value_in : digit_count l < length l
  value_in =
      ⊎_elim
      (λ k. absurd (omega (arith, g.end, get_d_past l (digit_count l) k.1)))
      (λ k. k.1)
      (split-le (length l) (digit_count l))

  value-parts : take (digit_count l) l ++ (10 ∷ drop (suc (digit_count l)) l) ≡ l
  value-parts = sym (rw g.end at (split_at l (digit_count l) 0 value_in))

  value-size : length (take (digit_count l) l) ≡ digit_count l
  value-size = length-take-le (digit_count l) l (omega (arith, value_in))

  value-number : number_of (take (digit_count l) l) ≡ value_of l
  unfolding value_of
  value-number = sym (number-take (digit_count l) 0 l ∙ number-of (take (digit_count l) l) 0 ∙ omega arith)

-- ---- a line

module _ (l : List ℕ) (z : line_kind l ≡ 0 → ⊥) where
  kind-some : word_kind l ≡ 0 → ⊥
  unfolding line_kind
  kind-some e = z (rw e)

  known : Known (word_kind l) l
  known = word-known l kind-some

  abbrev value : List ℕ
  value = after_word (word_kind l) l

  good : Good value
  unfolding line_kind
  good = value-good value (by (value_good value) refl)
    where
      by : (t : Bool) → value_good value ≡ t → value_good value ≡ true
      by true e = e
      by false e = absurd (z (rw (ne_eqb (word_kind l) 0 kind-some, e)))

  line-good : WellFormed (line_of l)
  line-good =
      record {
        first = known.first;
        last = known.last;
        some = omega (arith, value-size value good, good.some);
        few = omega (arith, value-size value good, good.few);
        digits = count-front value;
        small = omega (arith, value-number value good, good.small);
      }

  line-whole : line_text (line_of l) ++ drop (line_length l) l ≡ l
  unfolding line_length
  line-whole =
      let a : word_length (word_kind l) + digit_count value + 1 ≡ word_length (word_kind l) + suc (digit_count value) = omega arith in
      let e : drop (word_length (word_kind l) + digit_count value + 1) l ≡ drop (suc (digit_count value)) value = rw a (sym (drop-drop (suc (digit_count value)) (word_length (word_kind l)) l)) in
      rw e (line-parts (line_of l) (drop (suc (digit_count value)) value) ∙ rw (value-parts value good) known.front)

-- ---- all lines

pub lines-read : (n : ℕ) (l : List ℕ) → length l ≤ n → lines_fault n l ≡ 0 → Written l
unfolding lines_text
lines-read zero [] h z = record { lines = []; good = tt; is = refl }
lines-read zero (c ∷ l) h z = absurd (omega arith)
lines-read (suc n) [] h z = record { lines = []; good = tt; is = refl }
lines-read (suc n) (c ∷ l) h z =
    let t = c ∷ l in
    let f = sym (faults-step n t (λ e. absurd (omega (arith, e)))) ∙ z in
    let k : line_kind t ≡ 0 → ⊥ = eqb-false (line_kind t) 0 (when-none _ 7 (front-none _ _ f)) in
    let r = lines-read n (drop (line_length t) t) (omega (arith, length-drop (line_length t) t, line-some t k)) (rest-none _ _ f) in
    record { lines = line_of t ∷ r.lines; good = (line-good t k, r.good); is = rw r.is (line-whole t k) }

pub lines-fault : (n : ℕ) (l : List ℕ) → (lines_fault n l ≡ 0) ⊎ (lines_fault n l ≡ 8)
unfolding lines_fault when ◌then◌
lines-fault zero l = inl refl
lines-fault (suc n) l = by (eqb (length l) 0) (eqb (line_kind l) 0) (lines_fault n (drop (line_length l) l)) (lines-fault n (drop (line_length l) l))
  where
    by : (t u : Bool) (f : ℕ) → (f ≡ 0) ⊎ (f ≡ 8) → (cond t 0 (when u 8 then f) ≡ 0) ⊎ (cond t 0 (when u 8 then f) ≡ 8)
    by true u f i = inl refl
    by false true f i = inr refl
    by false false f i = i
