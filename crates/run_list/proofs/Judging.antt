-- The judging of runs, one law for each way through the code; the words may stand in a list or in a block.
use mathlib.Core.Path.{◌≡◌, refl, sym, ◌∙◌}
use mathlib.Core.List.{List, [], ◌∷◌}
use Prim.Native.Nat.{ℕ, suc, ◌+◌, ◌*◌, ◌/◌, ◌%◌, ◌≤◌, ◌<◌}
use native.Mathlib.Numerals.{add-one}
use native.Mathlib.Omega.{arith}
use borrow.Author.Tests.{lt-ltb, le-ltb, le-leb, lt-leb, eq-eqb, ne_eqb}
use lib.ListN.{length, drop, get_or, length-drop}
use lib.Seq.{drop-cons}
use Rattle.fields.specs.Refusal.{when, ◌then◌}
use Rattle.fields.proofs.Refusals.{then-none, then_some}
use Rattle.fields.specs.Limits.{too_long, max_words}
use Rattle.run_list.specs.Runs.{run_fault, runs_fault, odd, own_fault, fault, fault2}
use Rattle.std.specs.Prelude.{Option, Some, None}
use Rattle.run_list.specs.Calls.{above}

-- ---- one run

module _ (last : Option ℕ) (s e : ℕ) where
  pub run-empty : e ≤ s → 3 ≡ run_fault (above last) s e
  unfolding run_fault when ◌then◌
  run-empty h = rw (le-leb e s h)

  module _ (g : s < e) where
    pub run-first : last ≡ None → 0 ≡ run_fault (above last) s e
    unfolding run_fault when ◌then◌
    run-first z = rw (lt-leb e s g, z, le-ltb s 0 (omega arith))

    module _ (l : ℕ) (z : last ≡ Some l) where
      pub run-order : s ≤ l → 4 ≡ run_fault (above last) s e
      unfolding run_fault when ◌then◌
      run-order h = rw (lt-leb e s g, z, lt-ltb s (suc l) (omega arith))

      pub run-good : l < s → 0 ≡ run_fault (above last) s e
      unfolding run_fault when ◌then◌
      run-good h = rw (lt-leb e s g, z, le-ltb s (suc l) h)

-- ---- the loop over n runs: those before run k have no fault

pub record Judged (ws : List ℕ) (n k : ℕ) (last : Option ℕ) : Type 0 where
  pub size : length ws / 2 ≡ n
  pub within : k ≤ n
  pub rest : runs_fault 0 ws ≡ runs_fault (above last) (drop (2 * k) ws)

runs-few : (lo : ℕ) (ws : List ℕ) → length ws ≤ 1 → runs_fault lo ws ≡ 0
unfolding runs_fault
runs-few lo [] h = refl
runs-few lo (s ∷ []) h = refl
runs-few lo (s ∷ e ∷ ws) h = absurd (omega arith)

drop-run : (ws : List ℕ) (i : ℕ) → i + 1 < length ws → drop i ws ≡ get_or ws i 0 ∷ get_or ws (i + 1) 0 ∷ drop (i + 2) ws
drop-run ws i h =
    let e : suc (suc i) ≡ i + 2 = omega arith in
    rw (← e, add-one, drop-cons ws i 0 (omega arith), drop-cons ws (suc i) 0 (omega arith))

module _ (ws : List ℕ) (n : ℕ) where
  pub judged-start : length ws ≡ 2 * n → Judged ws n 0 None
  judged-start e = record { size = omega arith; within = omega arith; rest = refl }

  module _ (k : ℕ) (last : Option ℕ) (m : Judged ws n k last) where
    pub judged-end : n ≤ k → runs_fault 0 ws ≡ 0
    judged-end h = m.rest ∙ runs-few (above last) (drop (2 * k) ws) (omega (arith, m.size, length-drop (2 * k) ws))

    module _ (h : k < n) (s e : ℕ) (es : s ≡ get_or ws (2 * k) 0) (ee : e ≡ get_or ws (2 * k + 1) 0) (f : ℕ) (ef : f ≡ run_fault (above last) s e) where
      step : runs_fault 0 ws ≡ (f then runs_fault (suc e) (drop (2 * (k + 1)) ws))
      unfolding runs_fault
      step =
          let p : 2 * k + 2 ≡ 2 * (k + 1) = omega arith in
          m.rest ∙ rw (drop-run ws (2 * k) (omega (arith, m.size)), p, ← es, ← ee, ← ef)

      pub judged-next : f ≡ 0 → Judged ws n (k + 1) (Some e)
      judged-next z =
          record {
            size = m.size;
            within = omega arith;
            rest = step ∙ then-none f _ z ∙ rw (add-one k);
          }

      pub judged-fault : (f ≡ 0 → ⊥) → runs_fault 0 ws ≡ f
      judged-fault z = step ∙ then_some f _ z

-- ---- a word list

module _ (ws : List ℕ) where
  pub own-odd : length ws % 2 ≡ 1 → 6 ≡ own_fault ws
  unfolding own_fault odd when ◌then◌
  own-odd h = rw (eq-eqb (length ws % 2) 1 h)

  own-even : (length ws % 2 ≡ 1 → ⊥) → own_fault ws ≡ runs_fault 0 ws
  unfolding own_fault odd when ◌then◌
  own-even h = rw (ne_eqb (length ws % 2) 1 h)

  pub own-found : (f : ℕ) → (length ws % 2 ≡ 1 → ⊥) → runs_fault 0 ws ≡ f → f ≡ own_fault ws
  own-found f h e = sym (own-even h ∙ e)

  pub fault-long : max_words < length ws → 1 ≡ fault ws
  unfolding fault too_long when ◌then◌
  fault-long h = rw (lt-ltb max_words (length ws) h)

  pub fault-own : length ws ≤ max_words → (f : ℕ) → f ≡ own_fault ws → f ≡ fault ws
  unfolding fault too_long when ◌then◌
  fault-own h f e = rw (le-ltb max_words (length ws) h) e

-- ---- two word lists

module _ (a b : List ℕ) where
  pub faults-left : max_words < length a → 1 ≡ fault2 a b
  unfolding fault2 too_long when ◌then◌
  faults-left h = rw (lt-ltb max_words (length a) h)

  pub faults-right : length a ≤ max_words → max_words < length b → 1 ≡ fault2 a b
  unfolding fault2 too_long when ◌then◌
  faults-right h k = rw (le-ltb max_words (length a) h, lt-ltb max_words (length b) k)

  module _ (h : length a ≤ max_words) (k : length b ≤ max_words) where
    both : fault2 a b ≡ (own_fault a then own_fault b)
    unfolding fault2 too_long when ◌then◌
    both = rw (le-ltb max_words (length a) h, le-ltb max_words (length b) k)

    pub faults-own : (f : ℕ) → f ≡ own_fault a → (f ≡ 0 → ⊥) → f ≡ fault2 a b
    faults-own f e z = sym (both ∙ rw (← e) (then_some f (own_fault b) z))

    pub faults-last : (f : ℕ) → f ≡ own_fault a → f ≡ 0 → (g : ℕ) → g ≡ own_fault b → g ≡ fault2 a b
    faults-last f e z g d = d ∙ sym (both ∙ then-none (own_fault a) (own_fault b) (sym e ∙ z))
