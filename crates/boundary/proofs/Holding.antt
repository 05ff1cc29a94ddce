-- The union of two blocks with the next two words of each held.
use mathlib.Core.Path.{◌≡◌, ◌∙◌}
use mathlib.Core.Bool.{Bool, not, beq}
use mathlib.Core.List.{List}
use Prim.Native.Nat.{ℕ, ◌+◌, ◌%◌, ◌≤◌, min}
use native.Mathlib.Omega.{arith}
use lib.Dec.{leb}
use lib.ListN.{length, get_or}
use Rattle.std.specs.Int.{from_bool}
use Rattle.fields.specs.Counting.{bit}
use Rattle.boundary.specs.Merge.{either}
use Rattle.boundary.specs.Values.{odd_at}
use Rattle.boundary.specs.Stores.{set_bytes, store_all, rest}
use Rattle.boundary.specs.Walk.{Settled}
use Rattle.boundary.specs.Uniting.{BothLeft, HoldsNext, HeldOn}
use Rattle.boundary.specs.declared.Sweep.{Sweep}
use Rattle.boundary.proofs.Sweeping.{byte-bit, word_at}
use Rattle.boundary.proofs.Uniting.{united}

-- ---- one boundary

module _ (a b : List ℕ) (ea : length a % 2 ≡ 0) (eb : length b % 2 ≡ 0) (s : Sweep) (h : HoldsNext a b s) (z : BothLeft a b s.at) (out : List ℕ)
    (m : ℕ) (em : m ≡ from_bool (leb s.x s.y)) (n : ℕ) (en : n ≡ from_bool (leb s.y s.x)) (w : Bool) (ew : w ≡ either (odd_at (s.at.i + m)) (odd_at (s.at.j + n)))
    (d : ℕ) (ed : d ≡ from_bool (not (beq s.at.was w))) (x1 : ℕ) (ex : x1 ≡ get_or a (s.at.i + m + 1) 0) (y1 : ℕ) (ey : y1 ≡ get_or b (s.at.j + n + 1) 0)
    (t : Sweep) (u : Settled s (record { i = s.at.i + m; j = s.at.j + n; k = s.at.k + d; was = w }) x1 y1 t)
    (q : ℕ) (eq : q ≡ min s.x s.y) (out' : List ℕ) (eo : out' ≡ set_bytes out s.at.k q) where
  pub held_on : HeldOn a b s out t out'
  held_on =
      let ei : t.at.i ≡ s.at.i + bit (leb s.x s.y) = rw (u.place, em, byte-bit (leb s.x s.y)) in
      let ej : t.at.j ≡ s.at.j + bit (leb s.y s.x) = rw (u.place, en, byte-bit (leb s.y s.x)) in
      record {
        low-left = omega (arith, ei);
        low-right = omega (arith, ej);
        moved = rw u.place (united a b ea eb s.at z out s.x h.x s.y h.y m em n en w ew q eq out' eo d ed);
        holds = record {
          x = rw ei (u.x ∙ word_at a s.at.i s.x s.x1 (leb s.x s.y) h.x h.x1);
          y = rw ej (u.y ∙ word_at b s.at.j s.y s.y1 (leb s.y s.x) h.y h.y1);
          x1 = u.x1 ∙ ex ∙ rw u.place;
          y1 = u.y1 ∙ ey ∙ rw u.place;
        };
      }

-- ---- the loop

-- boundaries from f on
pub record Holding (a b : List ℕ) (f : Sweep) (out₀ : List ℕ) (s : Sweep) (out : List ℕ) : Type 0 where
  pub whole : f.at.k + length (rest either a b f.at.i f.at.j) ≤ length a + length b
  pub low-left : f.at.i ≤ s.at.i
  pub low-right : f.at.j ≤ s.at.j
  pub left : s.at.i ≤ length a
  pub right : s.at.j ≤ length b
  pub state : s.at.was ≡ either (odd_at s.at.i) (odd_at s.at.j)
  pub same : length out ≡ length out₀
  pub number : s.at.k + length (rest either a b s.at.i s.at.j) ≡ f.at.k + length (rest either a b f.at.i f.at.j)
  pub words : store_all set_bytes out s.at.k (rest either a b s.at.i s.at.j) ≡ store_all set_bytes out₀ f.at.k (rest either a b f.at.i f.at.j)
  pub holds : HoldsNext a b s
