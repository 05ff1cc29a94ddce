-- Comparing a directory word by word, one law for each way through the code.
use mathlib.Core.Path.{◌≡◌, refl, sym, ap, ◌∙◌}
use mathlib.Core.Bool.{Bool, true, false, not, ◌&&◌, true≢false}
use mathlib.Core.List.{List, [], ◌∷◌}
use Prim.Native.Nat.{ℕ, suc, ◌+◌, ◌≤◌, ◌<◌}
use native.Mathlib.Numerals.{add-one}
use native.Mathlib.Omega.{arith}
use borrow.Author.Tests.{eq-eqb, ne_eqb, eqb-true}
use lib.Dec.{eqb}
use lib.ListN.{length, drop, get_or, drop_of_length-le}
use lib.Seq.{drop-cons}
use Rattle.fields.specs.Refusal.{when}
use Rattle.fields.specs.Directory.{same, other_directory}
use Rattle.fields.proofs.Refusals.{when-none}

-- the words before i are the same
pub record Comparing (given right : List ℕ) (n i : ℕ) : Type 0 where
  pub size : n ≡ length right
  pub both : length given ≡ n
  pub within : i ≤ n
  pub rest : same given right ≡ same (drop i given) (drop i right)

same_length : (a b : List ℕ) → (length a ≡ length b → ⊥) → same a b ≡ false
unfolding same
same_length [] [] h = absurd (h refl)
same_length [] (y ∷ b) h = refl
same_length (x ∷ a) [] h = refl
same_length (x ∷ a) (y ∷ b) h = rw (same_length a b (λ e. h (ap suc e))) (none (eqb x y))
  where
    none : (t : Bool) → (t && false) ≡ false
    none true = refl
    none false = refl

module _ (given right : List ℕ) (n : ℕ) (e : n ≡ length right) where
  pub compare-length : (length given ≡ n → ⊥) → false ≡ same given right
  compare-length h = sym (same_length given right (λ k. h (k ∙ sym e)))

  pub compare-start : length given ≡ n → Comparing given right n 0
  compare-start h = record { size = e; both = h; within = omega arith; rest = refl }

module _ (given right : List ℕ) (n i : ℕ) (m : Comparing given right n i) where
  step : i < n → same given right ≡ (eqb (get_or given i 0) (get_or right i 0) && same (drop (suc i) given) (drop (suc i) right))
  unfolding same
  step h = m.rest ∙ rw (drop-cons given i 0 (omega (arith, m.both)), drop-cons right i 0 (omega (arith, m.size)))

  module _ (h : i < n) (w : ℕ) (e : w ≡ get_or right i 0) where
    pub compare-next : get_or given i 0 ≡ w → Comparing given right n (i + 1)
    compare-next k =
        record {
          size = m.size;
          both = m.both;
          within = omega arith;
          rest = step h ∙ rw (eq-eqb (get_or given i 0) (get_or right i 0) (k ∙ e), add-one i);
        }

    pub compare-other : (get_or given i 0 ≡ w → ⊥) → false ≡ same given right
    compare-other k = sym (step h ∙ rw (ne_eqb (get_or given i 0) (get_or right i 0) (λ d. k (d ∙ sym e))))

  pub compare-end : n ≤ i → true ≡ same given right
  unfolding same
  compare-end h = sym (m.rest ∙ rw (drop_of_length-le given {i = i} (omega (arith, m.both)), drop_of_length-le right {i = i} (omega (arith, m.size))))

-- the refusal, by what the comparison found
module _ (given right : List ℕ) (t : Bool) (e : t ≡ same given right) where
  pub other-found : t ≡ false → 9 ≡ other_directory given right
  unfolding other_directory when
  other-found h = rw (← e, h)

  pub other_none : t ≡ true → 0 ≡ other_directory given right
  unfolding other_directory when
  other_none h = rw (← e, h)

-- accepted means the same
pub same-is : (a b : List ℕ) → same a b ≡ true → a ≡ b
unfolding same
same-is [] [] h = refl
same-is [] (y ∷ b) h = absurd (true≢false (sym h))
same-is (x ∷ a) [] h = absurd (true≢false (sym h))
same-is (x ∷ a) (y ∷ b) h = go (eqb x y) refl (λ k. same-is a b k) h
  where
    go : (t : Bool) → eqb x y ≡ t → (same a b ≡ true → a ≡ b) → (t && same a b) ≡ true → x ∷ a ≡ y ∷ b
    go true e ih h = rw (eqb-true x y e, ih h)
    go false e ih h = absurd (true≢false (sym h))

pub is_same : (a : List ℕ) → same a a ≡ true
unfolding same
is_same [] = refl
is_same (x ∷ a) = rw (eq-eqb x x refl) (is_same a)

-- "9" exactly where the directory is another one
pub directory-right : (given right : List ℕ) → other_directory given right ≡ 0 → given ≡ right
unfolding other_directory
directory-right given right h = same-is given right (is_true (same given right) (when-none (not (same given right)) 8 h))
  where
    is_true : (t : Bool) → not t ≡ false → t ≡ true
    is_true true e = refl
    is_true false e = absurd (true≢false e)

pub right-directory : (right : List ℕ) → other_directory right right ≡ 0
right-directory right = sym (other_none right right true (sym (is_same right)) refl)
