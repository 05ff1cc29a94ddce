-- The places of a merge: the words at its indices, the lesser of them, the indices past it, and what the operation says between.
use mathlib.Core.Path.{◌≡◌, refl, ◌∙◌}
use mathlib.Core.Bool.{Bool, true, false, not}
use mathlib.Core.Logic.{⊎_elim}
use mathlib.Core.List.{List, [], ◌∷◌}
use Prim.Native.Nat.{ℕ, zero, suc, ◌+◌, ◌%◌, ◌≤◌, ◌<◌}
use native.Mathlib.Numerals.{add-one}
use native.Mathlib.Omega.{arith}
use lib.Dec.{eqb}
use lib.ListN.{length, drop, get_or, drop_of_length-le}
use lib.Seq.{drop-cons}
use Rattle.std.specs.Prelude.{Option, None, Some}
use Rattle.std.specs.List.{slice_get}
use Rattle.std.proofs.lemmas.Option.{slice_get-get_or, slice_get_past}
use Rattle.fields.specs.Counting.{bit}
use Rattle.fields.proofs.Tests.{split-le}
use Rattle.boundary.specs.Merge.{least, pop, flip}
use Rattle.boundary.specs.Values.{odd_at, lesser}

-- ---- the word at an index

front-drop : (ws : List ℕ) (i : ℕ) → slice_get ws i ≡ slice_get (drop i ws) 0
front-drop [] zero = refl
front-drop [] (suc i) = refl
front-drop (w ∷ ws) zero = refl
front-drop (w ∷ ws) (suc i) = front-drop ws i

pub lesser-least : (a b : List ℕ) (i j : ℕ) → lesser (slice_get a i) (slice_get b j) ≡ least (drop i a) (drop j b)
lesser-least a b i j = rw (front-drop a i, front-drop b j) (first (drop i a) (drop j b))
  where
    first : (p q : List ℕ) → lesser (slice_get p 0) (slice_get q 0) ≡ least p q
    first [] [] = refl
    first [] (y ∷ q) = refl
    first (x ∷ p) [] = refl
    first (x ∷ p) (y ∷ q) = refl

-- a word that may be missing is x
abbrev pub hits : Option ℕ → ℕ → Bool
hits None x = false
hits (Some y) x = eqb x y

-- a place `to`, inside or not, is the place `at`, inside or not, past a boundary x of ws
pub record Past (ws : List ℕ) (at x to : ℕ) : Type 0 where
  pub rest : drop to ws ≡ pop x (drop at ws)
  pub state : odd_at to ≡ flip x (drop at ws) (odd_at at)
  pub low : at ≤ to
  pub high : to ≤ length ws

pub odd-flip : (n : ℕ) → odd_at (n + 1) ≡ not (odd_at n)
odd-flip n = go (n % 2) ((n + 1) % 2) (omega arith) (omega arith) (omega arith)
  where
    go : (x y : ℕ) → x < 2 → y < 2 → ((x + y) % 2 ≡ 1) → eqb y 1 ≡ not (eqb x 1)
    go zero zero h k e = absurd (omega arith)
    go zero (suc zero) h k e = refl
    go zero (suc (suc y)) h k e = absurd (omega arith)
    go (suc zero) zero h k e = refl
    go (suc zero) (suc zero) h k e = absurd (omega arith)
    go (suc zero) (suc (suc y)) h k e = absurd (omega arith)
    go (suc (suc x)) y h k e = absurd (omega arith)

pub past-front : (ws : List ℕ) (i x to : ℕ) → i ≤ length ws → to ≡ i + bit (hits (slice_get ws i) x) → Past ws i x to
past-front ws i x to l e =
    ⊎_elim (λ h. some h.1 (eqb x (get_or ws i 0)) refl) (λ h. none (omega (arith, h.1))) (split-le (suc i) (length ws))
  where
    some : i < length ws → (t : Bool) → eqb x (get_or ws i 0) ≡ t → Past ws i x to
    some h true t =
        let d = drop-cons ws i 0 h in
        let g : to ≡ i + 1 = e ∙ rw (slice_get-get_or ws i 0 h, t) in
        record { rest = rw (g, d, t, add-one); state = rw (g, d, t) (odd-flip i); low = omega arith; high = omega arith }
    some h false t =
        let d = drop-cons ws i 0 h in
        let g : to ≡ i = e ∙ rw (slice_get-get_or ws i 0 h, t) (omega arith) in
        record { rest = rw (g, d, t); state = rw (g, d, t); low = omega arith; high = omega arith }

    none : length ws ≤ i → Past ws i x to
    none h =
        let d = drop_of_length-le ws h in
        let g : to ≡ i = e ∙ rw (slice_get_past ws i h) (omega arith) in
        record { rest = rw (g, d); state = rw (g, d); low = omega arith; high = omega arith }
