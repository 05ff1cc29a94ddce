-- A row's place among the words of a rising list.
use mathlib.Core.Path.{◌≡◌, refl, ap, ◌∙◌}
use mathlib.Core.Bool.{Bool, false, not}
use mathlib.Core.Logic.{⊎_elim}
use mathlib.Core.List.{List, [], ◌∷◌}
use Prim.Native.Nat.{ℕ, zero, suc, ◌+◌, ◌-◌, ◌/◌, ◌%◌, ◌≤◌, ◌<◌}
use native.Mathlib.Nat.{le_refl}
use native.Mathlib.Omega.{arith}
use borrow.Author.Tests.{lt-leb}
use lib.Dec.{eqb}
use lib.ListN.{length, get_or}
use Rattle.fields.specs.Counting.{bit}
use Rattle.fields.proofs.Tests.{split-le}
use Rattle.run_list.specs.Runs.{has, ValidFrom, Valid}
use Rattle.run_list.specs.Rising.{From, inside}
use Rattle.run_list.specs.Rows.{upper_bound}
use Rattle.run_list.specs.Places.{begun, place, ended, place_after}
use Rattle.run_list.proofs.Boundaries.{has-inside}

pub upper_bound-le : (r : ℕ) (ws : List ℕ) → upper_bound r ws ≤ length ws
upper_bound-le r [] = le_refl 0
upper_bound-le r (x ∷ ws) = let ih = upper_bound-le r ws in ⊎_elim (λ e. rw e.0 (omega (arith, ih))) (λ e. rw e.0 (omega arith)) (split-le x r)

-- a word above r bounds the place
pub upper_bound-above : (r : ℕ) (ws : List ℕ) (m : ℕ) → r < get_or ws m 0 → upper_bound r ws ≤ m
upper_bound-above r [] m h = omega arith
upper_bound-above r (x ∷ ws) zero h = rw (lt-leb x r h) (le_refl 0)
upper_bound-above r (x ∷ ws) (suc m) h =
    let ih = upper_bound-above r ws m h in ⊎_elim (λ e. rw e.0 (omega (arith, ih))) (λ e. rw e.0 (omega arith)) (split-le x r)

-- a word before the place is at most r
pub upper_bound-front : (r : ℕ) (ws : List ℕ) (i : ℕ) → i < upper_bound r ws → get_or ws i 0 ≤ r
upper_bound-front r ws i h = ⊎_elim (λ t. t.1) (λ t. absurd (omega (arith, upper_bound-above r ws i t.1))) (split-le (get_or ws i 0) r)

pub from-get_or : (lo : ℕ) (ws : List ℕ) (m : ℕ) → From lo ws → m < length ws → lo ≤ get_or ws m 0
from-get_or lo [] m f h = absurd (omega arith)
from-get_or lo (x ∷ ws) zero f h = f.0
from-get_or lo (x ∷ ws) (suc m) f h = omega (arith, f.0, from-get_or (suc x) ws m f.1 (omega arith))

flips : Bool → ℕ → Bool
flips b zero = b
flips b (suc n) = flips (not b) n

inside-flips : (b : Bool) (ws : List ℕ) (r : ℕ) → inside b ws r ≡ flips b (upper_bound r ws)
unfolding flips
inside-flips b [] r = refl
inside-flips b (x ∷ ws) r = ⊎_elim (λ e. rw e.0 (inside-flips (not b) ws r)) (λ e. rw e.0) (split-le x r)

flips-odd : (n : ℕ) → flips false n ≡ eqb (n % 2) 1
unfolding flips
flips-odd zero = refl
flips-odd (suc zero) = refl
flips-odd (suc (suc n)) = let e : n % 2 ≡ suc (suc n) % 2 = omega arith in flips-odd n ∙ ap (λ (k : ℕ). eqb k 1) e

-- a row is listed when an odd number of words are at most it
pub has-place : (ws : List ℕ) (r : ℕ) → Valid ws → has ws r ≡ eqb (upper_bound r ws % 2) 1
has-place ws r v = has-inside ws 0 r v ∙ inside-flips false ws r ∙ flips-odd (upper_bound r ws)

-- ---- the runs that start at or below a row

-- no run starts below the first start
begun-later : (ws : List ℕ) (lo r : ℕ) → ValidFrom lo ws → r < lo → begun ws r ≡ 0
begun-later [] lo r v h = refl
begun-later (s ∷ []) lo r v h = refl
begun-later (s ∷ e ∷ ws) lo r v h = rw (lt-leb s r (omega (arith, v.0))) (omega (arith, begun-later ws (suc e) r v.2 (omega (arith, v.0, v.1))))

-- each second word, the first one too, is a start
begun-words : (ws : List ℕ) (lo r : ℕ) → ValidFrom lo ws → begun ws r ≡ upper_bound r ws / 2 + upper_bound r ws % 2
begun-words [] lo r v = refl
begun-words (s ∷ []) lo r v = absurd v
begun-words (s ∷ e ∷ ws) lo r v =
    ⊎_elim
    (λ h. rw h.0 (⊎_elim
    (λ k. rw k.0 (omega (arith, begun-words ws (suc e) r v.2)))
    (λ k. rw k.0 (omega (arith, begun-later ws (suc e) r v.2 (omega (arith, k.1))))) (split-le e r)))
    (λ h. rw h.0 (omega (arith, begun-later ws (suc e) r v.2 (omega (arith, h.1, v.1))))) (split-le s r)

module _ (ws : List ℕ) (r : ℕ) (v : Valid ws) where
  pub begun-place : begun ws r ≡ upper_bound r ws / 2 + upper_bound r ws % 2
  begun-place = begun-words ws 0 r v

  -- what the number of words at most a row says of the runs
  pub place-after : place_after (upper_bound r ws) ≡ place ws r
  place-after = rw (begun-place, has-place ws r v)

  -- the runs that end at or below a row: each second word, but not the first, is an end
  pub ended-place : ended (place ws r) ≡ upper_bound r ws / 2
  ended-place = rw (begun-place, has-place ws r v) (half (upper_bound r ws % 2) (omega arith))
    where
      half : (m : ℕ) → m < 2 → upper_bound r ws / 2 + m - bit (eqb m 1) ≡ upper_bound r ws / 2
      half zero h = omega arith
      half (suc m) h = let z : m ≡ 0 = omega arith in rw z (omega arith)
