-- The space of a filter: a rising list of words of L is no longer than L.
use mathlib.Core.Path.{subst}
use mathlib.Core.Bool.{cond}
use mathlib.Core.Logic.{⊎_elim}
use mathlib.Core.List.Memᴰ
use mathlib.Core.List.{List, [], ◌∷◌, Memᴰ}
use Prim.Native.Nat.{ℕ, zero, suc, ◌+◌, ◌-◌, ◌≤◌, ◌<◌}
use native.Mathlib.Nat.{le_trans, le_refl, zero-add, suc-add, sub-add_cancel}
use native.Mathlib.Omega.{arith}
use borrow.Author.Tests.{le-leb, lt-leb}
use lib.Dec.{leb}
use lib.ListN.{length}
use Rattle.fields.proofs.Tests.{split-le}
use Rattle.run_list.specs.Rising.{From, Rising, All}

-- the words of L that are at least lo
at_least : ℕ → List ℕ → ℕ
at_least lo [] = 0
at_least lo (x ∷ l) = cond (leb lo x) (suc (at_least lo l)) (at_least lo l)

at_least-le : (lo : ℕ) (l : List ℕ) → at_least lo l ≤ length l
unfolding at_least
at_least-le lo [] = le_refl 0
at_least-le lo (x ∷ l) =
    let ih = at_least-le lo l in
    ⊎_elim (λ e. rw e.0 (omega (arith, ih))) (λ e. rw e.0 (omega (arith, ih))) (split-le lo x)

at_least-less : (lo : ℕ) (l : List ℕ) → at_least (suc lo) l ≤ at_least lo l
unfolding at_least
at_least-less lo [] = le_refl 0
at_least-less lo (x ∷ l) =
    let ih = at_least-less lo l in
    ⊎_elim
    (λ e. rw (e.0, le-leb lo x (omega (arith, e.1))) (omega (arith, ih)))
    (λ e. rw e.0 (⊎_elim (λ k. rw k.0 (omega (arith, ih))) (λ k. rw k.0 ih) (split-le lo x))) (split-le (suc lo) x)

at_least-mono : (lo d : ℕ) (l : List ℕ) → at_least (d + lo) l ≤ at_least lo l
at_least-mono lo zero l = rw zero-add (le_refl _)
at_least-mono lo (suc d) l = rw suc-add (le_trans (at_least-less (d + lo) l) (at_least-mono lo d l))

at_least-mem : (x : ℕ) (l : List ℕ) → Memᴰ x l → at_least (suc x) l < at_least x l
unfolding at_least
at_least-mem x [] m = absurd (Memᴰ.not-nil m)
at_least-mem x (y ∷ l) m =
    ⊎_elim
    (λ e. rw (← e, le-leb x x (le_refl x), lt-leb (suc x) x (le_refl _)) (omega (arith, at_least-less x l)))
    (λ k. let ih = at_least-mem x l k in
    ⊎_elim
    (λ e. rw (e.0, le-leb x y (omega (arith, e.1))) (omega (arith, ih)))
    (λ e. rw e.0 (⊎_elim (λ h. rw h.0 (omega (arith, ih))) (λ h. rw h.0 ih) (split-le x y))) (split-le (suc x) y))
    (Memᴰ.cases_cons m)

rising-count-from : (ws l : List ℕ) (lo : ℕ) → From lo ws → All (λ w. Memᴰ w l) ws → length ws ≤ at_least lo l
rising-count-from [] l lo f h = omega arith
rising-count-from (x ∷ ws) l lo f h =
    let up = subst (λ (k : ℕ). at_least k l ≤ at_least lo l) (sub-add_cancel f.0) (at_least-mono lo (x - lo) l) in
    omega (arith, rising-count-from ws l (suc x) f.1 h.1, at_least-mem x l h.0, up)

pub rising-count : (ws l : List ℕ) → Rising ws → All (λ w. Memᴰ w l) ws → length ws ≤ length l
rising-count ws l f h = le_trans (rising-count-from ws l 0 f h) (at_least-le 0 l)
