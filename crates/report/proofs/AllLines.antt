-- The steps of all lines of a text: the loop of `read_steps`.
use mathlib.Core.Path.{◌≡◌, refl, sym, ◌∙◌}
use mathlib.Core.Bool.{Bool, true, false, not, true≢false}
use mathlib.Core.List.{List, [], ◌∷◌}
use Prim.Native.Nat.{ℕ, zero, suc, ◌+◌, ◌-◌, ◌≤◌, ◌<◌}
use native.Mathlib.Numerals.{add-one, add-two}
use native.Mathlib.Omega.{arith}
use borrow.Author.Tests.{eq-eqb, ne_eqb, eqb-true, eqb-false}
use lib.Dec.{eqb}
use lib.ListN.{length, drop, set, length-set}
use lib.Seq.{sets, length-sets}
use Rattle.fields.specs.Refusal.{when, ◌then◌}
use Rattle.report.specs.Lines.{word_kind, line_kind, line_value, line_length, lines_fault, lines_steps, text_fault, text_steps}
use Rattle.report.specs.Inner.{SplitsLine, StepsRead}
use Rattle.report.proofs.LineCalls.{word_some}

-- a line that is well formed has four bytes at least
pub line-some : (l : List ℕ) → (line_kind l ≡ 0 → ⊥) → 4 ≤ line_length l
unfolding line_kind line_length
line-some l z = omega (arith, word_some l word)
  where
    word : word_kind l ≡ 0 → ⊥
    word e = z (rw e)

-- a text is empty, or not, as `is_empty` says
pub text-some : (l : List ℕ) (t : Bool) → t ≡ eqb (length l) 0 → not t ≡ true → length l ≡ 0 → ⊥
text-some l true e h = absurd (true≢false (sym h))
text-some l false e h = eqb-false (length l) 0 (sym e)

pub text-none : (l : List ℕ) (t : Bool) → t ≡ eqb (length l) 0 → not t ≡ false → length l ≡ 0
text-none l true e h = eqb-true (length l) 0 (sym e)
text-none l false e h = absurd (true≢false h)

-- the lines from a place on are still to be read, by at most fuel of them
pub record Lines (text before rest : List ℕ) (n : ℕ) (out : List ℕ) : Type 0 where
  pub few : n + length rest ≤ length text
  pub fuel : ℕ
  pub enough : length rest ≤ fuel
  pub faults : lines_fault fuel rest ≡ text_fault text
  pub number : n + length (lines_steps fuel rest) ≡ length (text_steps text)
  pub still : sets out n (lines_steps fuel rest) ≡ sets before 0 (text_steps text)
  pub limit : length text ≤ 8192
  pub room : length text ≤ length before
  pub size : length out ≡ length before

pub faults-step : (n : ℕ) (l : List ℕ) → (length l ≡ 0 → ⊥) → lines_fault (suc n) l ≡ (when (eqb (line_kind l) 0) 8 then lines_fault n (drop (line_length l) l))
unfolding lines_fault
faults-step n l z = rw (ne_eqb (length l) 0 z)

pub steps-step : (n : ℕ) (l : List ℕ) → (length l ≡ 0 → ⊥) → lines_steps (suc n) l ≡ line_kind l ∷ line_value l ∷ lines_steps n (drop (line_length l) l)
unfolding lines_steps
steps-step n l z = rw (ne_eqb (length l) 0 z)

pub faults-end : (n : ℕ) (l : List ℕ) → length l ≡ 0 → lines_fault n l ≡ 0
unfolding lines_fault
faults-end zero l z = refl
faults-end (suc n) l z = rw (eq-eqb (length l) 0 z)

pub steps-end : (n : ℕ) (l : List ℕ) → length l ≡ 0 → lines_steps n l ≡ []
unfolding lines_steps
steps-end zero l z = refl
steps-end (suc n) l z = rw (eq-eqb (length l) 0 z)

module _ (text before : List ℕ) where
  pub lines_start : length text ≤ 8192 → length text ≤ length before → Lines text before text 0 before
  unfolding text_fault text_steps
  lines_start q h =
      record { few = omega arith; fuel = length text; enough = omega arith; faults = refl; number = omega arith; still = refl; limit = q; room = h; size = refl }

  module _ (rest : List ℕ) (n : ℕ) (out : List ℕ) (m : Lines text before rest n out) where
    module _ (some : length rest ≡ 0 → ⊥) where
      more : m.fuel ≡ suc (m.fuel - 1)
      more = omega (arith, m.enough, some)

      pub lines-bad : line_kind rest ≡ 0 → text_fault text ≡ 8
      unfolding when ◌then◌
      lines-bad z =
          let e = rw more at m.faults in
          sym e ∙ faults-step (m.fuel - 1) rest some ∙ rw (eq-eqb (line_kind rest) 0 z)

      module _ (kind value : ℕ) (after : List ℕ) (l : SplitsLine rest kind value after) where
        known : line_kind rest ≡ 0 → ⊥
        known e = l.some (l.is ∙ e)

        lines-ahead : length after + 4 ≤ length rest
        lines-ahead = omega (arith, l.size, line-some rest known)

        pub lines-less : length after < length rest
        lines-less = omega (arith, lines-ahead)

        pub lines-room : (w : ℕ) → n + 1 < length (set out n w)
        lines-room w = omega (arith, length-set out n w, lines-ahead, m.few, m.room, m.size)

        pub lines_next : Lines text before after (n + 2) (set (set out n kind) (n + 1) value)
        unfolding when ◌then◌
        lines_next =
            let w : set (set out n kind) (n + 1) value ≡ sets out n (kind ∷ value ∷ []) = rw (add-one n) refl in
            let e = rw more at m.faults in
            let f = rw more at m.number in
            let g = rw more at m.still in
            let k = m.fuel - 1 in
            let step = steps-step k rest some in
            record {
              few = omega (arith, lines-ahead, m.few);
              fuel = k;
              enough = omega (arith, lines-ahead, m.enough, more);
              faults = rw l.onward (sym (faults-step k rest some ∙ rw (ne_eqb (line_kind rest) 0 known)) ∙ e);
              number = rw l.onward (omega (arith, rw step at f));
              still = rw (l.onward, w, l.is, l.value_is, add-two n) (rw step at g);
              limit = m.limit;
              room = m.room;
              size = rw w (length-sets out n (kind ∷ value ∷ [])) ∙ m.size;
            }

    pub lines_end : length rest ≡ 0 → StepsRead text before n out
    lines_end z =
        let s = steps-end m.fuel rest z in
        record {
          fault = sym m.faults ∙ faults-end m.fuel rest z;
          number = omega (arith, rw s at m.number);
          few = omega (arith, m.few);
          written = rw s at m.still;
        }
