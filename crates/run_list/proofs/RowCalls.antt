-- The rows of a list: their number, and the calls `contains` and `count`, one law for each way through the code.
use mathlib.Core.Path.{◌≡◌, refl, ap, ◌∙◌}
use mathlib.Core.Bool.{false, and-false}
use mathlib.Core.Logic.{⊎_elim}
use mathlib.Core.List.{List, [], ◌∷◌}
use Prim.Native.Nat.{ℕ, zero, suc, ◌+◌, ◌-◌, ◌*◌, ◌/◌, ◌%◌, ◌^◌, ◌≤◌, ◌<◌}
use native.Mathlib.Numerals.{add-one}
use native.Mathlib.Omega.{arith}
use borrow.Author.Tests.{lt-leb, le-ltb}
use lib.Dec.{leb}
use lib.ListN.{length, drop, get_or}
use lib.Seq.{drop-cons}
use mir.Val.{Fits}
use mir.Syntax.{w64}
use Rattle.std.specs.Simd.{first_chunks}
use Rattle.fields.proofs.WordLists.{chunks-length, pair-first, pair-second}
use Rattle.fields.specs.Counting.{bit, count_below}
use Rattle.fields.specs.Answers.{none, accepted}
use Rattle.fields.proofs.Tests.{split-le}
use Rattle.run_list.specs.Runs.{has, ValidFrom, Valid, fault}
use Rattle.run_list.specs.Rising.{From, All}
use Rattle.run_list.specs.Rows.{rows, rows_below}
use Rattle.run_list.specs.Places.{place, place_after}
use Rattle.run_list.specs.Search.{searched}
use Rattle.run_list.specs.Calls.{Contains}
use Rattle.run_list.specs.declared.Listed.{Listed}
use Rattle.run_list.proofs.Validity.{valid-even, fault-accepted}
use Rattle.run_list.proofs.Boundaries.{valid-from}
use Rattle.run_list.proofs.Places.{from-get_or, place-after}
use Rattle.run_list.proofs.Searching.{searched-rising}

-- ---- the rows of a valid list are its listed rows

has-below : (ws : List ℕ) (lo r : ℕ) → ValidFrom lo ws → r < lo → has ws r ≡ false
has-below [] lo r v h = refl
has-below (s ∷ []) lo r v h = refl
has-below (s ∷ e ∷ ws) lo r v h =
    rw (lt-leb s r (omega (arith, v.0))) (has-below ws (suc e) r v.2 (omega (arith, v.0, v.1)))

rows_below-zero : (ws : List ℕ) → rows_below ws 0 ≡ 0
rows_below-zero [] = refl
rows_below-zero (s ∷ []) = refl
rows_below-zero (s ∷ e ∷ ws) = omega (arith, rows_below-zero ws)

rows_below-suc : (ws : List ℕ) (lo p : ℕ) → ValidFrom lo ws → rows_below ws (suc p) ≡ rows_below ws p + bit (has ws p)
rows_below-suc [] lo p v = refl
rows_below-suc (s ∷ []) lo p v = refl
rows_below-suc (s ∷ e ∷ ws) lo p v =
    let ih = rows_below-suc ws (suc e) p v.2 in
    ⊎_elim
    (λ h. rw h.0 (⊎_elim
    (λ k. rw k.0 (omega (arith, rw (has-below ws (suc e) p v.2 (omega (arith, k.1))) at ih, h.1, k.1, v.1)))
    (λ k. rw k.0 (omega (arith, ih, h.1, k.1, v.1))) (split-le (suc p) e)))
    (λ h. rw h.0 (omega (arith, ih, h.1, v.1))) (split-le s p)

-- the number of listed rows below p
pub below-count : (ws : List ℕ) (p : ℕ) → Valid ws → rows_below ws p ≡ count_below (has ws) p
unfolding count_below
below-count ws zero v = rows_below-zero ws
below-count ws (suc p) v = rows_below-suc ws 0 p v ∙ ap (λ (n : ℕ). n + bit (has ws p)) (below-count ws p v)

rows_all : (m : ℕ) (ws : List ℕ) → All (λ w. w ≤ m) ws → rows ws ≡ rows_below ws m
rows_all m [] h = refl
rows_all m (s ∷ []) h = refl
rows_all m (s ∷ e ∷ ws) h = omega (arith, h.0, h.1.0, rows_all m ws h.1.1)

-- "`count`": the number of listed rows, all of which are below m
pub rows-count : (ws : List ℕ) (m : ℕ) → Valid ws → All (λ w. w ≤ m) ws → rows ws ≡ count_below (has ws) m
rows-count ws m v h = rows_all m ws h ∙ below-count ws m v

-- ---- `contains`

-- row 2^64 - 1 "is never a row": a run that had it would end at 2^64 or above
pub none-unlisted : (ws : List ℕ) → All (λ w. w < 2 ^ 64) ws → has ws none ≡ false
none-unlisted [] h = refl
none-unlisted (s ∷ []) h = refl
none-unlisted (s ∷ e ∷ ws) h = rw (le-ltb none e (omega (arith, h.1.0)), and-false (leb s none)) (none-unlisted ws h.1.1)

-- "`contains` says no to it", whatever list of 64-bit words it gets
pub contains-none : (ws : List ℕ) → All (λ w. w < 2 ^ 64) ws → (r : Listed) → Contains ws none r → r.yes ≡ false
contains-none ws h r c = c.says ∙ rw (none-unlisted ws h) (either (fault ws))
  where
    either : (f : ℕ) → accepted f false false ≡ false
    either zero = unfold accepted in refl
    either (suc f) = unfold accepted in refl

module _ (ws : List ℕ) (a : fault ws ≡ 0) (r n : ℕ) where
  pub accepted-place : n ≡ searched r ws → place_after n ≡ place ws r
  accepted-place e =
      let v : Valid ws = (fault-accepted ws a).valid in
      rw (e, searched-rising ws r (valid-from ws 0 v)) (place-after ws r v)

-- ---- `count`: the rows from run k on are still to be added

pub record Summing (ws : List ℕ) (pairs : List (List ℕ)) (k sum : ℕ) : Type 0 where
  pub even : length ws % 2 ≡ 0
  pub are : pairs ≡ first_chunks 2 (length ws / 2) ws
  pub within : k ≤ length ws / 2
  pub total : sum + rows (drop (2 * k) ws) ≡ rows ws

-- a word is below the one after it
pub rises_next : (lo : ℕ) (ws : List ℕ) (i : ℕ) → From lo ws → i + 1 < length ws → get_or ws i 0 < get_or ws (i + 1) 0
rises_next lo [] i f h = absurd (omega arith)
rises_next lo (x ∷ ws) zero f h = from-get_or (suc x) ws 0 f.1 (omega arith)
rises_next lo (x ∷ ws) (suc i) f h =
    let e : suc i + 1 ≡ suc (i + 1) = omega arith in
    rw e (rises_next (suc x) ws i f.1 (omega arith))

-- the runs lie apart, so that their rows fit
rows_bound : (m lo : ℕ) (ws : List ℕ) → ValidFrom lo ws → All (λ w. w ≤ m) ws → lo ≤ m + 1 → rows ws + lo ≤ m + 1
rows_bound m lo [] v h k = omega arith
rows_bound m lo (s ∷ []) v h k = omega arith
rows_bound m lo (s ∷ e ∷ ws) v h k =
    omega (arith, v.0, v.1, h.1.0, rows_bound m (suc e) ws v.2 h.1.1 (omega (arith, h.1.0)))

pub all_of : (P : ℕ → Type 0) (ws : List ℕ) → ((i : ℕ) → P (get_or ws i 0)) → All P ws
all_of P [] h = tt
all_of P (x ∷ ws) h = (h 0, all_of P ws (λ i. h (suc i)))

pub rows_fit : (ws : List ℕ) → Valid ws → ((j : ℕ) → Fits w64 (get_or ws j 0)) → rows ws ≤ 18446744073709551615
rows_fit ws v b = go ws v (all_of (λ w. w ≤ 18446744073709551615) ws (λ j. omega (arith, b j)))
  where
    go : (l : List ℕ) → Valid l → All (λ w. w ≤ 18446744073709551615) l → rows l ≤ 18446744073709551615
    go [] v h = omega arith
    go (s ∷ []) v h = omega arith
    go (s ∷ e ∷ l) v h = omega (arith, v.1, h.1.0, rows_bound 18446744073709551615 (suc e) l v.2 h.1.1 (omega (arith, h.1.0)))

module _ (ws : List ℕ) (a : fault ws ≡ 0) (pairs : List (List ℕ)) where
  pub summing-start : pairs ≡ first_chunks 2 (length ws / 2) ws → Summing ws pairs 0 0
  summing-start e = record { even = valid-even ws 0 (fault-accepted ws a).valid; are = e; within = omega arith; total = omega arith }

  module _ (k sum : ℕ) (m : Summing ws pairs k sum) (h : k < length pairs) (pair : List ℕ) where
    below : k < length ws / 2
    below = omega (arith, rw m.are at h, chunks-length 2 (length ws / 2) ws)

    first : get_or (get_or pairs k pair) 0 0 ≡ get_or ws (2 * k) 0
    first = rw m.are (pair-first (length ws / 2) k ws pair 0 below)

    second : get_or (get_or pairs k pair) 1 0 ≡ get_or ws (2 * k + 1) 0
    second = rw m.are (pair-second (length ws / 2) k ws pair 0 below)

    rows_next : rows (drop (2 * k) ws) ≡ (get_or ws (2 * k + 1) 0 - get_or ws (2 * k) 0) + rows (drop (2 * (k + 1)) ws)
    rows_next =
        let e : 2 * (k + 1) ≡ suc (suc (2 * k)) = omega arith in
        rw (e, add-one, drop-cons ws (2 * k) 0 (omega (arith, below)), drop-cons ws (suc (2 * k)) 0 (omega (arith, below, m.even)))

    pub summing-order : get_or (get_or pairs k pair) 0 0 ≤ get_or (get_or pairs k pair) 1 0
    summing-order =
        omega (arith, first, second, rises_next 0 ws (2 * k) (valid-from ws 0 (fault-accepted ws a).valid) (omega (arith, below, m.even)))

    pub summing-fits : ((j : ℕ) → Fits w64 (get_or ws j 0)) → Fits w64 (sum + (get_or (get_or pairs k pair) 1 0 - get_or (get_or pairs k pair) 0 0))
    summing-fits b = omega (arith, m.total, rows_next, first, second, rows_fit ws (fault-accepted ws a).valid b)

    pub summing-next : Summing ws pairs (k + 1) (sum + (get_or (get_or pairs k pair) 1 0 - get_or (get_or pairs k pair) 0 0))
    summing-next =
        record {
          even = m.even;
          are = m.are;
          within = omega (arith, below);
          total = omega (arith, m.total, rows_next, first, second);
        }
