-- Reading lines: values, and a line. One law for each way through the code.
use mathlib.Core.Path.{◌≡◌, refl, sym, ap, ◌∙◌}
use mathlib.Core.Bool.{Bool, true, false, cond}
use mathlib.Core.List.{List, [], ◌∷◌}
use Prim.Native.Nat.{ℕ, ◌+◌, ◌^◌, ◌≤◌, ◌<◌}
use native.Mathlib.Omega.{arith}
use borrow.Author.Tests.{le-leb, lt-leb, lt-ltb, le-ltb, ne_eqb}
use lib.Dec.{eqb}
use lib.ListN.{length, take, drop, get_or, length-drop}
use lib.Seq.{drop-drop, get_or-drop}
use Rattle.std.proofs.Common.{nat_eq}
use Rattle.std.proofs.Math.Bool.{and-false, and-true}
use Rattle.std.proofs.lemmas.List.{get_or_past}
use Rattle.std.specs.Cmp.Lexicographic.{pointwise}
use Rattle.report.specs.Lines.{take_word, and_word, or_word, without_word, starts, word_kind, word_length, digit_count, number_from, value_of, value_good, line_kind, line_value, line_length}
use Rattle.report.specs.Inner.{SplitsWord, SplitsValue, SplitsLine}
use Rattle.report.proofs.LineLaws.{count-within, number-take, Stripped, Other}

-- ---- words

-- a word has three bytes at least
pub word_some : (l : List ℕ) → (word_kind l ≡ 0 → ⊥) → 3 ≤ word_length (word_kind l)
unfolding word_kind word_length
word_some l = by (starts take_word l) (starts and_word l) (starts or_word l) (starts without_word l)
  where
    by : (t u v w : Bool) → (◌≡◌ {A = ℕ} (cond t 1 (cond u 2 (cond v 3 (cond w 4 0)))) 0 → ⊥) → 3 ≤ word_length (cond t 1 (cond u 2 (cond v 3 (cond w 4 0))))
    by true u v w z = omega arith
    by false true v w z = omega arith
    by false false true w z = omega arith
    by false false false true z = omega arith
    by false false false false z = absurd (z refl)

-- ---- values

pub get_d_past : (l : List ℕ) (i : ℕ) → length l ≤ i → get_or l i 0 ≡ 0
get_d_past l i h = get_or_past l i 0 h

-- a byte stands at the front
byte-front : (l : List ℕ) (b : ℕ) → 0 < b → (t : Bool) → pointwise nat_eq (take 1 l) (b ∷ []) ≡ t → eqb (get_or l 0 0) b ≡ t
byte-front [] b h t e = ne_eqb 0 b (λ q. absurd (omega (arith, q))) ∙ e
byte-front (c ∷ l) b h t e = sym (and-true (eqb c b)) ∙ e

module _ (text : List ℕ) (n : ℕ) (e : n ≡ digit_count text) where
  pub value-empty : n ≡ 0 → value_good text ≡ false
  unfolding value_good
  value-empty z = rw (sym e ∙ z)

  pub value-many : 20 < n → value_good text ≡ false
  unfolding value_good
  value-many h = rw (lt-leb (digit_count text) 20 (omega arith), and-false)

  pub value_in : n ≤ length text
  value_in = omega (arith, count-within text)

  module _ (digits rest : List ℕ) (f : digits ≡ take n text) (r : rest ≡ drop n text) where
    -- the byte after the digits, and their number
    feed : (t : Bool) → pointwise nat_eq (take 1 rest) (10 ∷ []) ≡ t → eqb (get_or text (digit_count text) 0) 10 ≡ t
    feed t q =
        let b = byte-front rest 10 (omega arith) t q in
        let z : n + 0 ≡ n = omega arith in
        rw (← e) (rw (r, get_or-drop n text 0 0, z) at b)

    number-is : number_from 0 (length digits) digits ≡ value_of text
    unfolding value_of
    number-is = rw (f, ← e) (sym (number-take n 0 text))

    pub value-other : Other rest (10 ∷ []) → value_good text ≡ false
    unfolding value_good
    value-other z = rw (feed false z, and-false, and-false, and-false)

    module _ (some : n ≡ 0 → ⊥) (few : n ≤ 20) (after : List ℕ) (s : Stripped rest (10 ∷ []) after) where
      pub value-great : ¬ (number_from 0 (length digits) digits < 2 ^ 64) → value_good text ≡ false
      unfolding value_good
      value-great k =
          let g : 18446744073709551616 ≤ value_of text = omega (arith, k, number-is) in
          rw (le-ltb (value_of text) 18446744073709551616 g, and-false, and-false)

      pub value-done : (x : ℕ) → (number_from 0 (length digits) digits < 2 ^ 64) × (x ≡ number_from 0 (length digits) digits) → SplitsValue text x after
      unfolding value_good
      value-done x k =
          let g : value_of text < 18446744073709551616 = omega (arith, k.0, number-is) in
          record {
            good =
                rw (le-leb 1 (digit_count text) (omega (arith, some)), le-leb (digit_count text) 20 (omega (arith, few)), lt-ltb (value_of text) 18446744073709551616 g)
                (feed true s.0);
            value_is = k.1 ∙ number-is;
            onward = s.1 ∙ rw r (drop-drop 1 n text ∙ rw e);
            size = omega (arith, s.2, ap length r, length-drop n text, value_in);
          }

-- ---- a line

module _ (text : List ℕ) where
  pub line-none : word_kind text ≡ 0 → line_kind text ≡ 0
  unfolding line_kind
  line-none z = rw z

  module _ (kind : ℕ) (rest : List ℕ) (w : SplitsWord text kind rest) where
    known : word_kind text ≡ 0 → ⊥
    known q = w.some (w.is ∙ q)

    here : rest ≡ drop (word_length (word_kind text)) text
    here = rw (← w.is) w.onward

    pub line-bad : value_good rest ≡ false → line_kind text ≡ 0
    unfolding line_kind
    line-bad y = rw (ne_eqb (word_kind text) 0 known, ← here, y)

    module _ (value : ℕ) (after : List ℕ) (v : SplitsValue rest value after) where
      length-is : line_length text ≡ word_length kind + digit_count rest + 1
      unfolding line_length
      length-is = rw (← w.is, ← w.onward)

      onward : after ≡ drop (line_length text) text
      onward =
          let q : word_length kind + (digit_count rest + 1) ≡ line_length text = omega (arith, length-is) in
          v.onward ∙ (ap (drop (digit_count rest + 1)) w.onward ∙ (drop-drop (digit_count rest + 1) (word_length kind) text ∙ ap (λ (n : ℕ). drop n text) q))

      pub line-good : SplitsLine text kind value after
      unfolding line_kind line_value
      line-good =
          record {
            is = w.is ∙ rw (ne_eqb (word_kind text) 0 known, ← here, v.good);
            some = w.some;
            value_is = v.value_is ∙ ap value_of here;
            onward = onward;
            size = omega (arith, length-is, v.size, w.size);
          }
