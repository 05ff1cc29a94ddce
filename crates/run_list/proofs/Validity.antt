-- A word list is accepted exactly where it is valid and within the limit.
use mathlib.Core.Path.{◌≡◌, refl, ◌∙◌}
use mathlib.Core.List.{List, [], ◌∷◌}
use Prim.Native.Nat.{ℕ, suc, ◌%◌, ◌≤◌, ◌<◌}
use native.Mathlib.Omega.{arith}
use borrow.Author.Tests.{lt-leb, le-ltb, leb-false, ltb-false, eqb-false, ne_eqb}
use lib.Dec.{leb, ltb, eqb}
use lib.ListN.{length}
use Rattle.fields.specs.Refusal.{when, ◌then◌}
use Rattle.fields.proofs.Refusals.{then-none, front-none, rest-none, when-none}
use Rattle.fields.specs.Limits.{too_long, max_words}
use Rattle.fields.proofs.Limits.{none-long}
use Rattle.run_list.specs.Runs.{ValidFrom, Valid, run_fault, runs_fault, odd, own_fault, fault, fault2}

module _ (lo s e : ℕ) where
  run-right : lo ≤ s → s < e → run_fault lo s e ≡ 0
  unfolding run_fault when ◌then◌
  run-right h k = rw (lt-leb e s k, le-ltb s lo h)

  pub run-low : run_fault lo s e ≡ 0 → lo ≤ s
  unfolding run_fault
  run-low f = ltb-false s lo (when-none (ltb s lo) 3 (rest-none (when (leb e s) 3) (when (ltb s lo) 4) f))

  pub run-some : run_fault lo s e ≡ 0 → s < e
  unfolding run_fault
  run-some f = leb-false e s (when-none (leb e s) 2 (front-none (when (leb e s) 3) (when (ltb s lo) 4) f))

pub runs-valid : (ws : List ℕ) (lo : ℕ) → length ws % 2 ≡ 0 → runs_fault lo ws ≡ 0 → ValidFrom lo ws
unfolding runs_fault
runs-valid [] lo h f = tt
runs-valid (s ∷ []) lo h f = absurd (omega arith)
runs-valid (s ∷ e ∷ ws) lo h f =
    let r = front-none (run_fault lo s e) (runs_fault (suc e) ws) f in
    (run-low lo s e r, run-some lo s e r, runs-valid ws (suc e) (omega arith) (rest-none (run_fault lo s e) (runs_fault (suc e) ws) f))

pub valid-runs : (ws : List ℕ) (lo : ℕ) → ValidFrom lo ws → runs_fault lo ws ≡ 0
unfolding runs_fault
valid-runs [] lo v = refl
valid-runs (s ∷ []) lo v = absurd v
valid-runs (s ∷ e ∷ ws) lo v =
    then-none (run_fault lo s e) (runs_fault (suc e) ws) (run-right lo s e v.0 v.1) ∙ valid-runs ws (suc e) v.2

-- a valid list has pairs
pub valid-even : (ws : List ℕ) (lo : ℕ) → ValidFrom lo ws → length ws % 2 ≡ 0
valid-even [] lo v = refl
valid-even (s ∷ []) lo v = absurd v
valid-even (s ∷ e ∷ ws) lo v = let h = valid-even ws (suc e) v.2 in omega arith

-- ---- accepted lists

pub record Accepted (ws : List ℕ) : Type 0 where
  pub limit : length ws ≤ max_words
  pub valid : Valid ws

own-valid : (ws : List ℕ) → own_fault ws ≡ 0 → Valid ws
unfolding own_fault odd
own-valid ws e =
    let o = eqb-false (length ws % 2) 1 (when-none (eqb (length ws % 2) 1) 5 (front-none _ _ e)) in
    runs-valid ws 0 (omega (arith, o)) (rest-none _ _ e)

pub fault-accepted : (ws : List ℕ) → fault ws ≡ 0 → Accepted ws
unfolding fault
fault-accepted ws e = record { limit = none-long max_words ws (front-none _ _ e); valid = own-valid ws (rest-none _ _ e) }

pub accepted-fault : (ws : List ℕ) → Accepted ws → fault ws ≡ 0
unfolding fault too_long own_fault odd when ◌then◌
accepted-fault ws a =
    let o = valid-even ws 0 a.valid in
    rw (le-ltb max_words (length ws) a.limit, ne_eqb (length ws % 2) 1 (λ k. absurd (omega arith))) (valid-runs ws 0 a.valid)

long-none : (ws : List ℕ) → fault ws ≡ 0 → too_long max_words ws ≡ 0
unfolding fault
long-none ws e = front-none _ _ e

own-none : (ws : List ℕ) → fault ws ≡ 0 → own_fault ws ≡ 0
unfolding fault
own-none ws e = rest-none _ _ e

pub faults-accepted : (a b : List ℕ) → fault2 a b ≡ 0 → Accepted a × Accepted b
unfolding fault2
faults-accepted a b e =
    let r = rest-none _ _ e in
    let s = rest-none _ _ r in (
      record { limit = none-long max_words a (front-none _ _ e); valid = own-valid a (front-none _ _ s) },
      record { limit = none-long max_words b (front-none _ _ r); valid = own-valid b (rest-none _ _ s) },
    )

pub accepted-faults : (a b : List ℕ) → Accepted a → Accepted b → fault2 a b ≡ 0
unfolding fault2
accepted-faults a b v w =
    let p = accepted-fault a v in
    let q = accepted-fault b w in
    then-none _ _ (long-none a p) ∙ then-none _ _ (long-none b q) ∙ then-none _ _ (own-none a p) ∙ own-none b q
