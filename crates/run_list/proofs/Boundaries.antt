-- One list of boundaries: the state at a row, what it has to do with the plain reading of runs, and that a set of rows has one valid list.
use mathlib.Core.Path.{◌≡◌, refl, sym, ap, ◌∙◌, subst, subst⁻¹}
use mathlib.Core.Bool.{Bool, true, false, not, true≢false}
use mathlib.Core.Logic.{◌⊎◌, inl, inr, ⊎_elim}
use mathlib.Core.List.{List, [], ◌∷◌}
use Prim.Native.Nat.{ℕ, suc, ◌≤◌, ◌<◌}
use native.Mathlib.Nat.{le_trans, le_refl}
use native.Mathlib.Omega.{arith}
use borrow.Author.Tests.{lt-ltb, le-ltb, le-leb, lt-leb}
use lib.Dec.{leb}
use Rattle.fields.proofs.Tests.{split-le, split-eq, not-self}
use Rattle.run_list.specs.Runs.{has, ValidFrom, Valid}
use Rattle.run_list.specs.Rising.{From, inside, ends}

-- ---- rising lists

pub from-weaken : (ws : List ℕ) {lo lo' : ℕ} → lo ≤ lo' → From lo' ws → From lo ws
from-weaken [] h f = tt
from-weaken (x ∷ ws) h f = (le_trans h f.0, f.1)

-- below the first boundary the state is the first one
pub inside-below : (b : Bool) (ws : List ℕ) (lo r : ℕ) → From lo ws → r < lo → inside b ws r ≡ b
inside-below b [] lo r f h = refl
inside-below b (x ∷ ws) lo r f h = rw (lt-leb x r (omega (arith, f.0)))

-- ---- valid lists: rising, with an even number of words

pub valid-from : (ws : List ℕ) (lo : ℕ) → ValidFrom lo ws → From lo ws
valid-from [] lo v = tt
valid-from (s ∷ []) lo v = absurd v
valid-from (s ∷ e ∷ ws) lo v = (v.0, (v.1, valid-from ws (suc e) v.2))

pub valid-ends : (ws : List ℕ) (lo : ℕ) → ValidFrom lo ws → ends false ws ≡ false
valid-ends [] lo v = refl
valid-ends (s ∷ []) lo v = absurd v
valid-ends (s ∷ e ∷ ws) lo v = valid-ends ws (suc e) v.2

pub from-valid : (ws : List ℕ) (lo : ℕ) → From lo ws → ends false ws ≡ false → ValidFrom lo ws
from-valid [] lo f e = tt
from-valid (s ∷ []) lo f e = true≢false e
from-valid (s ∷ t ∷ ws) lo f e = (f.0, f.1.0, from-valid ws (suc t) f.1.1 e)

-- the plain reading of a valid list is the state
pub has-inside : (ws : List ℕ) (lo : ℕ) (r : ℕ) → ValidFrom lo ws → has ws r ≡ inside false ws r
has-inside [] lo r v = refl
has-inside (s ∷ []) lo r v = absurd v
has-inside (s ∷ t ∷ ws) lo r v =
    let ih = has-inside ws (suc t) r v.2 in
    ⊎_elim
    (λ h. rw h.0 (⊎_elim (λ k. rw (k.0, le-ltb r t k.1) ih) (λ k. rw (k.0, lt-ltb r t k.1)) (split-le t r)))
    (λ h. rw h.0 (ih ∙ inside-below false ws (suc t) r (valid-from ws (suc t) v.2) (omega (arith, h.1, v.1)))) (split-le s r)

-- ---- a set of rows has one valid list

turned : (p : Bool) (x : ℕ) (ws : List ℕ) → From (suc x) ws → inside p (x ∷ ws) x ≡ not p
turned p x ws f = rw (le-leb x x (le_refl x)) (inside-below (not p) ws (suc x) x f (le_refl (suc x)))

-- a set of rows has one valid list
inside-unique : (p : Bool) (a b : List ℕ) (lo : ℕ) → From lo a → From lo b → ((r : ℕ) → inside p a r ≡ inside p b r) → a ≡ b
inside-unique p [] [] lo f g h = refl
inside-unique p [] (y ∷ b) lo f g h =
    absurd (not-self p (h y ∙ turned p y b g.1))
inside-unique p (x ∷ a) [] lo f g h =
    absurd (not-self p (sym (h x) ∙ turned p x a f.1))
inside-unique p (x ∷ a) (y ∷ b) lo f g h =
    ⊎_elim
    (λ e. subst (λ (z : ℕ). x ∷ a ≡ z ∷ b) e.1 (ap (λ (l : List ℕ). x ∷ l)
    (inside-unique (not p) a b (suc x) f.1 (subst⁻¹ (λ (z : ℕ). From (suc z) b) e.1 g.1) (λ r. later e.1 r (split-le x r)))))
    (λ e. absurd (apart e.1 (split-le x y))) (split-eq x y)
  where
    later : x ≡ y → (r : ℕ) → ((leb x r ≡ true) × (x ≤ r)) ⊎ ((leb x r ≡ false) × (r < x)) → inside (not p) a r ≡ inside (not p) b r
    later e r (inl k) = sym (rw k.0 refl) ∙ h r ∙ rw (← e, k.0)
    later e r (inr k) = inside-below (not p) a (suc x) r f.1 (omega (arith, k.1)) ∙ sym (inside-below (not p) b (suc y) r g.1 (omega (arith, k.1)))

    apart : (x ≡ y → ⊥) → ((leb x y ≡ true) × (x ≤ y)) ⊎ ((leb x y ≡ false) × (y < x)) → ⊥
    apart n (inl k) =
        not-self p (sym (inside-below p (y ∷ b) y x (le_refl y, g.1) (omega (arith, n, k.1))) ∙ sym (h x) ∙ turned p x a f.1)
    apart n (inr k) = not-self p (sym (inside-below p (x ∷ a) x y (le_refl x, f.1) k.1) ∙ h y ∙ turned p y b g.1)

-- "Each set of rows has one valid list"
pub unique : (a b : List ℕ) → Valid a → Valid b → ((r : ℕ) → has a r ≡ has b r) → a ≡ b
unique a b v w h = inside-unique false a b 0 (valid-from a 0 v) (valid-from b 0 w) (λ r. sym (has-inside a 0 r v) ∙ h r ∙ has-inside b 0 r w)
