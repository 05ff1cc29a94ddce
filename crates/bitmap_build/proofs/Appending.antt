-- A run written, runs in order and apart, and a range appended.
use mathlib.Core.Bool.{Bool, true, false, ◌&&◌, ◌||◌, or-false, or_assoc, true≢false}
use mathlib.Core.Path.{◌≡◌, refl, sym, ◌∙◌}
use mathlib.Core.Logic.{⊎_elim}
use mathlib.Core.List.{List, [], ◌∷◌, ◌++◌, append_assoc, append-nil}
use Prim.Native.Nat.{ℕ, suc, ◌+◌, ◌%◌, ◌≤◌, ◌<◌, max}
use native.Mathlib.Nat.{le_refl, le_trans}
use native.Mathlib.Numerals.{add-one, add-two}
use native.Mathlib.Omega.{arith}
use borrow.Author.Tests.{le-ltb, lt-ltb, le-leb, leb-true}
use lib.Dec.{leb}
use lib.ListN.{length, take, set, length-set}
use lib.Seq.{length-take-le, take-suc-set, drop-set-lt}
use Rattle.std.proofs.lemmas.Bool.{and_parts}
use Rattle.run_list.specs.Runs.{covers, has, ValidFrom}
use Rattle.fields.proofs.Tests.{split-le}
use Rattle.bitmap_build.specs.Joining.{run, Before, PutRun, Appended}
use Rattle.bitmap_build.proofs.Pairs.{has-append, covers-none}

-- ---- a run

module _ (a b : ℕ) where
  run_none : b ≤ a → run a b ≡ []
  unfolding run
  run_none h = rw (le-ltb a b h)

  run-some : a < b → run a b ≡ a ∷ b ∷ []
  unfolding run
  run-some h = rw (lt-ltb a b h)

  pub run-even : length (run a b) % 2 ≡ 0
  run-even = ⊎_elim (λ h. rw (run_none h.1)) (λ h. rw (run-some h.1)) (split-le b a)

  run_short : length (run a b) ≤ 2
  run_short = ⊎_elim (λ h. rw (run_none h.1) (omega arith)) (λ h. rw (run-some h.1) (omega arith)) (split-le b a)

  pub run-has : (r : ℕ) → has (run a b) r ≡ covers a b r
  run-has r =
      ⊎_elim (λ h. rw (run_none h.1, covers-none a b r h.1)) (λ h. rw (run-some h.1) (or-false (covers a b r))) (split-le b a)

module _ (k a b : ℕ) (s : List ℕ) where
  pub put-none : b ≤ a → PutRun k a b s k s
  put-none h = record { next = rw (run_none a b h) (omega arith); words = rw (run_none a b h) (sym (append-nil (take k s))); later = λ j l. refl }

  module _ (h : a < b) (fits : k + length (run a b) ≤ length s) where
    put-room : k + 1 < length s
    put-room = omega (arith, rw (run-some a b h) at fits)

    pub put_first : k < length s
    put_first = omega (arith, put-room)

    pub put_second : k + 1 < length (set s k a)
    put_second = simp length-set put-room

    pub put_some : PutRun k a b s (k + 2) (set (set s k a) (k + 1) b)
    put_some =
        record {
          next = rw (run-some a b h);
          words = rw (run-some a b h, add-two, add-one, take-suc-set (set s k a) (suc k) b (rw add-one at put_second), take-suc-set s k a put_first, append_assoc);
          later = λ j l. drop-set-lt j (set s k a) (k + 1) b (omega arith) ∙ drop-set-lt j s k a (omega arith);
        }

-- ---- runs in order and apart

-- with a run after them, another may start at c
pub before-run : (lo a b c : ℕ) (ws : List ℕ) → a ≤ c → b < c → Before lo a ws → Before lo c (ws ++ run a b)
before-run lo a b c [] h k f =
    ⊎_elim (λ m. rw (run_none a b m.1) (le_trans f h)) (λ m. rw (run-some a b m.1) (f, m.1, k)) (split-le b a)
before-run lo a b c (s ∷ []) h k f = absurd f
before-run lo a b c (s ∷ e ∷ ws) h k f = (f.0, f.1, before-run (suc e) a b c ws h k f.2)

pub before-valid : (lo a : ℕ) (ws : List ℕ) → Before lo a ws → ValidFrom lo ws
before-valid lo a [] f = tt
before-valid lo a (s ∷ []) f = f
before-valid lo a (s ∷ e ∷ ws) f = (f.0, f.1, before-valid (suc e) a ws f.2)

-- ---- a range appended

-- two ranges that touch or overlap are one
union-range : (a b s e r : ℕ) → a ≤ s → s ≤ b → covers a (max b e) r ≡ (covers a b r || covers s e r)
union-range a b s e r h k =
    ⊎_elim
    (λ m. rw (m.0, le-leb a r (omega (arith, m.1))) (⊎_elim
    (λ n. rw (n.0, lt-ltb r (max b e) (omega (arith, n.1))))
    (λ n. rw n.0 (⊎_elim (λ o. rw (o.0, lt-ltb r (max b e) (omega (arith, o.1)))) (λ o. rw (o.0, le-ltb r (max b e) (omega (arith, n.1, o.1)))) (split-le (suc r) e)))
    (split-le (suc r) b)))
    (λ m. rw (m.0, lt-ltb r (max b e) (omega (arith, m.1)), lt-ltb r b (omega (arith, m.1))) (sym (or-false (leb a r && true))))
    (split-le s r)

module _ (k a b : ℕ) (out : List ℕ) (s e : ℕ) (even : k % 2 ≡ 0) (t : Bool) (is : t ≡ (leb a s && leb s b)) where
  pub appended-grow : t ≡ true → (c : ℕ) → c ≡ max b e → Appended k a b out s e k a c out
  appended-grow y c d =
      let both = and_parts (leb a s) (leb s b) (sym is ∙ y) in
      let p = leb-true a s both.0 in
      let q = leb-true s b both.1 in
      record {
        even = even;
        rows = λ r. rw (d, union-range a b s e r p q) (sym (or_assoc (has (take k out) r) (covers a b r) (covers s e r)));
        order = λ h f. f;
        start = λ h. h;
        room = omega (arith, run_short a c);
        later = λ j l. refl;
      }

  pub appended-new : t ≡ false → k + length (run a b) ≤ length out → (n : ℕ) (out' : List ℕ) → PutRun k a b out n out' → Appended k a b out s e n s e out'
  appended-new y fits n out' w =
      let l : length (take k out) % 2 ≡ 0 = rw (length-take-le k out (omega arith)) even in
      record {
        even = omega (arith, w.next, run-even a b);
        rows = λ r. rw (w.words, has-append (take k out) (run a b) l r, run-has a b r);
        order = λ h f. rw w.words (before-run 0 a b s (take k out) h (apart h) f);
        start = λ h. le_refl s;
        room = omega (arith, w.next, run_short s e);
        later = λ j m. w.later j (omega (arith, w.next));
      }
    where
      -- a range that starts after the run's start, and does not touch it, starts after its end
      apart : a ≤ s → b < s
      apart h = ⊎_elim (λ m. absurd (true≢false (sym (rw (le-leb a s h, m.0)) ∙ sym is ∙ y))) (λ m. m.1) (split-le s b)
