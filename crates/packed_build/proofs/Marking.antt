-- The set digits of a word, taken from the lowest on, and the loop that writes them, one law for each way through the code.
use mathlib.Core.Path.{◌≡◌, refl, ap, ◌∙◌}
use mathlib.Core.List.{List, [], ◌∷◌}
use Prim.Native.Nat.{ℕ, zero, suc, ◌+◌, ◌-◌, ◌*◌, ◌/◌, ◌%◌, ◌^◌, ◌≤◌, ◌<◌}
use native.Mathlib.Nat.{add-zero, add-suc, suc-add, pow-succ'}
use native.Mathlib.Numerals.{add-one}
use native.Mathlib.Omega.{arith}
use lib.Bits.{bit_and, and_step, and_self, and_le_r}
use lib.Count.{count_trailing_zeros, under, trailing_le}
use lib.ListN.{length, set}
use lib.Pow.{field, mod-mod-pow}
use lib.Seq.{sets, length-sets}
use mir.Val.{Fits}
use mir.Syntax.{w64}
use Rattle.fields.specs.Answers.{StoredAt}
use Rattle.packed_build.specs.Marks.{mark, marks}

-- ---- the lowest set digit

-- `v & (v - 1)` is v without it
lower-even : (v : ℕ) → 0 < v → v % 2 ≡ 0 → bit_and v (v - 1) ≡ bit_and (v / 2) (v / 2 - 1) * 2
lower-even v h e =
    let p : (v - 1) / 2 ≡ v / 2 - 1 = omega arith in
    and_step v (v - 1) ∙ rw (p, e) (omega arith)

lower-odd : (v : ℕ) → v % 2 ≡ 1 → bit_and v (v - 1) ≡ v / 2 * 2
lower-odd v e =
    let p : (v - 1) / 2 ≡ v / 2 = omega arith in
    let q : (v - 1) % 2 ≡ 0 = omega arith in
    and_step v (v - 1) ∙ rw (p, e, q, and_self (v / 2)) (omega arith)

marks-double : (n r x : ℕ) → marks (suc n) r (x * 2) ≡ marks n (suc r) x
unfolding marks
marks-double n r x =
    let p : x * 2 % 2 ≡ 0 = omega arith in
    let q : x * 2 / 2 ≡ x = omega arith in
    rw (p, q)

-- one digit of it, d: where that is clear, the lowest set one is among the rest
next-step : (n r v d : ℕ) → 0 < v → v % 2 ≡ d → d < 2
    → (0 < v / 2 → marks n (suc r) (v / 2) ≡ (suc r + count_trailing_zeros n (v / 2)) ∷ marks n (suc r) (bit_and (v / 2) (v / 2 - 1)))
    → mark d r (marks n (suc r) (v / 2)) ≡ (r + under d (count_trailing_zeros n (v / 2))) ∷ marks (suc n) r (bit_and v (v - 1))
next-step n r v zero h e l ih =
    let t = count_trailing_zeros n (v / 2) in
    ih (omega arith) ∙ rw (lower-even v h e, marks-double n r (bit_and (v / 2) (v / 2 - 1)), suc-add r t, add-suc r t)
next-step n r v (suc zero) h e l ih = rw (lower-odd v e, marks-double n r (v / 2), add-zero r)
next-step n r v (suc (suc d)) h e l ih = absurd (omega arith)

marks-next : (n r v : ℕ) → 0 < v → v < 2 ^ n → marks n r v ≡ (r + count_trailing_zeros n v) ∷ marks n r (bit_and v (v - 1))
unfolding marks count_trailing_zeros
marks-next zero r v h k = absurd (omega arith)
marks-next (suc n) r v h k =
    let b : v < 2 * 2 ^ n = rw (pow-succ' 2 n) at k in
    next-step n r v (v % 2) h refl (omega arith) (λ l. marks-next n (suc r) (v / 2) l (omega arith))

marks-none : (n r : ℕ) → marks n r 0 ≡ []
unfolding marks
marks-none zero r = refl
marks-none (suc n) r = marks-none n (suc r)

pub marks-length : (n r v : ℕ) → length (marks n r v) ≤ n
unfolding marks
marks-length zero r v = omega arith
marks-length (suc n) r v = go (v % 2) (marks n (suc r) (v / 2)) (marks-length n (suc r) (v / 2))
  where
    go : (d : ℕ) (rs : List ℕ) → length rs ≤ n → length (mark d r rs) ≤ suc n
    go zero rs h = omega arith
    go (suc d) rs h = omega arith

-- higher digits don't count
pub marks-mod : (n r v : ℕ) → marks n r (v % 2 ^ n) ≡ marks n r v
unfolding marks
marks-mod zero r v = refl
marks-mod (suc n) r v =
    let p : v % 2 ^ suc n % 2 ≡ v % 2 = rw (add-one n) at (mod-mod-pow v n 1) in
    let q : v % 2 ^ suc n / 2 ≡ v / 2 % 2 ^ n = rw (add-one n) at (field v n 1) in
    rw (p, q, marks-mod n (suc r) (v / 2))

-- ---- a boundary written

module _ (x k : ℕ) (out : List ℕ) where
  pub put-room : k < length out → StoredAt (x ∷ []) out k (k + 1) (set out k x)
  put-room h = record { next = refl; written = refl }

-- ---- the loop: what is still to come, written after what is written, is all of it

pub record Marking (word base first : ℕ) (out₀ : List ℕ) (left k : ℕ) (out : List ℕ) : Type 0 where
  pub small : left < 2 ^ 64
  pub bound : k ≤ first + 64
  pub room : length out ≡ length out₀
  pub number : k + length (marks 64 base left) ≡ first + length (marks 64 base word)
  pub words : sets out k (marks 64 base left) ≡ sets out₀ first (marks 64 base word)

-- a row of the word fits 64 bits
pub row_fits : (base v : ℕ) → base < 2 ^ 63 → Fits w64 (base + count_trailing_zeros 64 v)
row_fits base v h = omega (arith, trailing_le 64 v)

module _ (word base first : ℕ) (out₀ : List ℕ) where
  module _ (left k : ℕ) (out : List ℕ) (m : Marking word base first out₀ left k out) where
    pub marking-end : left ≡ 0 → StoredAt (marks 64 base word) out₀ first k out
    marking-end e =
        let n : marks 64 base left ≡ [] = rw e (marks-none 64 base) in
        record { next = omega (arith, rw n at m.number); written = rw n at m.words }

    pub marking-next : (left ≡ 0 → ⊥) → (k' : ℕ) (out' : List ℕ) → StoredAt ((base + count_trailing_zeros 64 left) ∷ []) out k k' out'
        → Marking word base first out₀ (bit_and left (left - 1)) k' out'
    marking-next z k' out' w =
        let next = marks-next 64 base left (omega arith) m.small in
        let number : k' + length (marks 64 base (bit_and left (left - 1))) ≡ first + length (marks 64 base word) = omega (arith, rw next at m.number, w.next) in
        record {
          small = omega (arith, m.small, and_le_r left (left - 1));
          bound = omega (arith, number, marks-length 64 base word);
          room = ap length w.written ∙ length-sets out k ((base + count_trailing_zeros 64 left) ∷ []) ∙ m.room;
          number = number;
          words = rw (w.next, w.written, add-one k) (rw next at m.words);
        }
