-- What the definitions of Build give: the one valid list of the given rows; and what an accepted call wrote is that list.
use mathlib.Core.Bool.{or-false}
use mathlib.Core.Path.{◌≡◌, refl, sym, ◌∙◌}
use mathlib.Core.Logic.{⊎_elim}
use mathlib.Core.List.{List, [], ◌∷◌}
use Prim.Native.Nat.{ℕ, suc, ◌≤◌}
use native.Mathlib.Nat.{le_refl, le_trans}
use native.Mathlib.Omega.{arith}
use borrow.Author.Tests.{le-ltb, lt-ltb, le-leb}
use lib.Dec.{eqb}
use lib.ListN.{length, take}
use Rattle.fields.specs.Refusal.{◌then◌}
use Rattle.fields.specs.Answers.{short}
use Rattle.fields.specs.declared.outcome.Answer.{Answer}
use Rattle.fields.proofs.Refusals.{front-none}
use Rattle.fields.proofs.Answers.{gives-result}
use Rattle.run_list.specs.Runs.{covers, has, Valid, fault}
use Rattle.boundary.specs.Merge.{either}
use Rattle.fields.proofs.Tests.{split-le, split-eq}
use Rattle.fields.specs.Limits.{max_words}
use Rattle.run_list.proofs.Boundaries.{unique}
use Rattle.boundary.proofs.Combining.{combine-valid, combine-has, combine-length}
use Rattle.run_list.proofs.Validity.{accepted-fault}
use Rattle.run_list.specs.Rising.{elem}
use Rattle.bitmap_build.specs.Build.{joined, ranges, rows_fault, ranges_fault, Built}
use Rattle.bitmap_build.proofs.Pairs.{covers-none}
use Rattle.bitmap_build.proofs.Inputs.{ranges-length, rows_few, ranges-few}

pub joined-valid : (ws : List ℕ) → Valid (joined ws)
joined-valid [] = tt
joined-valid (s ∷ []) = tt
joined-valid (s ∷ e ∷ ws) =
    let ih = joined-valid ws in
    ⊎_elim (λ h. rw h.0 ih)
    (λ h. rw h.0 (combine-valid either refl (s ∷ e ∷ []) (joined ws) (omega arith, h.1, tt) ih)) (split-le e s)

-- a row is listed exactly when some range holds it
pub joined-has : (ws : List ℕ) (r : ℕ) → has (joined ws) r ≡ has ws r
joined-has [] r = refl
joined-has (s ∷ []) r = refl
joined-has (s ∷ e ∷ ws) r =
    let ih = joined-has ws r in
    ⊎_elim
    (λ h. rw (h.0, covers-none s e r h.1) ih)
    (λ h. rw h.0 (combine-has either refl (s ∷ e ∷ []) (joined ws) (omega arith, h.1, tt) (joined-valid ws) r
    ∙ rw (ih, or-false (covers s e r)))) (split-le e s)

pub joined_length : (ws : List ℕ) → length (joined ws) ≤ length ws
joined_length [] = le_refl 0
joined_length (s ∷ []) = omega arith
joined_length (s ∷ e ∷ ws) =
    let ih = joined_length ws in
    ⊎_elim (λ h. rw h.0 (omega (arith, ih)))
    (λ h. rw h.0 (omega (arith, ih, combine-length either (s ∷ e ∷ []) (joined ws)))) (split-le e s)

-- whatever makes a valid list of the same rows makes this one
pub joined-unique : (ws xs : List ℕ) → Valid xs → ((r : ℕ) → has xs r ≡ has ws r) → xs ≡ joined ws
joined-unique ws xs v h = unique xs (joined ws) v (joined-valid ws) (λ r. h r ∙ sym (joined-has ws r))

pub joined_same : (a b : List ℕ) → ((r : ℕ) → has a r ≡ has b r) → joined a ≡ joined b
joined_same a b h = joined-unique b (joined a) (joined-valid a) (λ r. joined-has a r ∙ h r)

-- ---- rows

one-row : (x r : ℕ) → covers x (suc x) r ≡ eqb x r
one-row x r =
    ⊎_elim (λ e. rw (e.0, le-leb x r (omega (arith, e.1)), lt-ltb r (suc x) (omega (arith, e.1))))
    (λ e. rw e.0 (⊎_elim (λ h. rw h.0 (le-ltb r (suc x) (omega (arith, h.1, e.1)))) (λ h. rw h.0) (split-le x r)))
    (split-eq x r)

ranges-has : (rows : List ℕ) (r : ℕ) → has (ranges rows) r ≡ elem r rows
ranges-has [] r = refl
ranges-has (x ∷ rows) r = rw (one-row x r, ranges-has rows r)

pub rows-listed : (rows : List ℕ) (r : ℕ) → has (joined (ranges rows)) r ≡ elem r rows
rows-listed rows r = joined-has (ranges rows) r ∙ ranges-has rows r

-- ---- what an accepted call wrote, up to its returned length

module _ (f : ℕ) (pairs before : List ℕ) (r : Answer) (out : List ℕ) (b : Built f pairs before r out) (z : r.refusal ≡ 0) where
  pub built-result : take r.len out ≡ joined pairs
  built-result = gives-result (f then short (length pairs) (length before)) (joined pairs) (length pairs) before r out b z

  -- it is accepted as a run list
  pub built-accepted : length pairs ≤ max_words → fault (take r.len out) ≡ 0
  built-accepted h =
      rw built-result (accepted-fault (joined pairs) (record { limit = le_trans (joined_length pairs) h; valid = joined-valid pairs }))

  -- the input has no refusal
  input_none : f ≡ 0
  input_none = front-none f (short (length pairs) (length before)) (sym b.refusal ∙ z)

-- of rows: a run list that lists the given rows, and no others
module _ (rows before : List ℕ) (r : Answer) (out : List ℕ) (b : Built (rows_fault rows) (ranges rows) before r out) (z : r.refusal ≡ 0) where
  pub rows-accepted : fault (take r.len out) ≡ 0
  rows-accepted =
      built-accepted (rows_fault rows) (ranges rows) before r out b z
      (omega (arith, ranges-length rows, rows_few rows (input_none (rows_fault rows) (ranges rows) before r out b z)))

  pub rows-built : (x : ℕ) → has (take r.len out) x ≡ elem x rows
  rows-built x = rw (built-result (rows_fault rows) (ranges rows) before r out b z) (rows-listed rows x)

-- of ranges: the rows that some range holds
module _ (ws before : List ℕ) (r : Answer) (out : List ℕ) (b : Built (ranges_fault ws) ws before r out) (z : r.refusal ≡ 0) where
  pub ranges-accepted : fault (take r.len out) ≡ 0
  ranges-accepted =
      built-accepted (ranges_fault ws) ws before r out b z (ranges-few ws (input_none (ranges_fault ws) ws before r out b z))

  pub ranges-built : (x : ℕ) → has (take r.len out) x ≡ has ws x
  ranges-built x = rw (built-result (ranges_fault ws) ws before r out b z) (joined-has ws x)
