-- The steps of a filter: their kinds, their operations and their places in the words of a call. One law for each way through the code.
use mathlib.Core.Path.{◌≡◌, refl, sym, ap, ◌∙◌}
use mathlib.Core.Bool.{true, false, true≢false}
use mathlib.Core.List.{List, [], ◌∷◌}
use Prim.Native.Nat.{ℕ, zero, suc, ◌+◌, ◌*◌, ◌/◌, ◌≤◌, ◌<◌}
use native.Mathlib.Omega.{arith}
use borrow.Author.Tests.{ne_eqb}
use lib.ListN.{length, drop, get_or, length-drop}
use lib.Seq.{drop-cons}
use Rattle.std.specs.Prelude.{Result, Ok, Err, MatchResult}
use Rattle.std.specs.Result.{result_unwrap_or}
use Rattle.std.specs.Simd.{first_chunks}
use Rattle.fields.specs.Refusal.{when, ◌then◌, refusal_number}
use Rattle.fields.specs.declared.outcome.Refusal.{Refusal}
use Rattle.fields.proofs.WordLists.{chunks-length, pair-first}
use Rattle.boundary.specs.Merge.{op_of}
use Rattle.boundary.proofs.Values.{by-table}
use Rattle.bitmap_index.specs.Filter.{step, kind_number, unknown_kind, kinds_fault, named, ands, take_then_ands}
use Rattle.std.specs.Borrow.{Bor}
use Rattle.bitmap_index.specs.declared.steps.StepKind.{StepKind}
use Rattle.bitmap_index.specs.declared.steps.StepKind.TheVariants.{Take, And, Or, Without}
use Rattle.bitmap_index.specs.declared.steps.Steps.{Steps}
use Rattle.bitmap_index.specs.declared.steps.Steps.TheVariants.{Pairs, Values}
use Rattle.bitmap_index.specs.Inner.{steps_of}
use Rattle.bitmap_index.proofs.NamedValues.{named-few, length-named, named-at, named-take_then_ands}

-- ---- kinds

-- of pairs of words those before pair i are of known kinds
pub record Kinds (steps : List ℕ) (pairs : List (List ℕ)) (i : ℕ) : Type 0 where
  pub are : pairs ≡ first_chunks 2 (length steps / 2) steps
  pub rest : kinds_fault (drop (2 * i) steps) ≡ kinds_fault steps

no-kinds : (l : List ℕ) → length l ≤ 1 → 0 ≡ kinds_fault l
unfolding kinds_fault
no-kinds [] h = refl
no-kinds (x ∷ []) h = refl
no-kinds (x ∷ y ∷ l) h = absurd (omega arith)

kind_known : (kind : StepKind) → unknown_kind (kind_number kind) ≡ false
kind_known Take = refl
kind_known And = refl
kind_known Or = refl
kind_known Without = refl

module _ (steps : List ℕ) (pairs : List (List ℕ)) where
  module _ (i : ℕ) (m : Kinds steps pairs i) where
    number : length pairs ≡ length steps / 2
    number = rw m.are (chunks-length 2 (length steps / 2) steps)

    module _ (h : i < length pairs) (pair : List ℕ) where
      first : kinds_fault steps ≡ (when (unknown_kind (get_or (get_or pairs i pair) 0 0)) 8 then kinds_fault (drop (2 * (i + 1)) steps))
      unfolding kinds_fault
      first =
          let e : 2 * (i + 1) ≡ suc (suc (2 * i)) = omega arith in
          let k : get_or (get_or pairs i pair) 0 0 ≡ get_or steps (2 * i) 0 = rw m.are (pair-first (length steps / 2) i steps pair 0 (omega (arith, number))) in
          sym m.rest ∙ rw (e, k, drop-cons steps (2 * i) 0 (omega (arith, number)), drop-cons steps (suc (2 * i)) 0 (omega (arith, number)))

      pub kinds-found : (e : Refusal) → (refusal_number e ≡ 8) × (unknown_kind (get_or (get_or pairs i pair) 0 0) ≡ true) → refusal_number e ≡ kinds_fault steps
      unfolding ◌then◌ when
      kinds-found e z = z.0 ∙ sym (first ∙ rw z.1)

      pub kinds-next : (kind : StepKind) → kind_number kind ≡ get_or (get_or pairs i pair) 0 0 → Kinds steps pairs (i + 1)
      unfolding ◌then◌ when
      kinds-next kind z = record { are = m.are; rest = sym (first ∙ rw (← z, kind_known kind)) }

    pub kinds-end : length pairs ≤ i → 0 ≡ kinds_fault steps
    kinds-end h = no-kinds (drop (2 * i) steps) (omega (arith, length-drop (2 * i) steps, number)) ∙ m.rest

-- ---- operations

module _ (kind : StepKind) where
  pub table-take : kind ≡ Take → op_of 10 ≡ step (kind_number kind)
  unfolding op_of step
  table-take e = rw e (by-table (op_of 10) (step 1) refl refl refl refl)

  pub table-and : kind ≡ And → op_of 8 ≡ step (kind_number kind)
  unfolding op_of step
  table-and e = rw e (by-table (op_of 8) (step 2) refl refl refl refl)

  pub table-or : kind ≡ Or → op_of 14 ≡ step (kind_number kind)
  unfolding op_of step
  table-or e = rw e (by-table (op_of 14) (step 3) refl refl refl refl)

  pub table-without : kind ≡ Without → op_of 4 ≡ step (kind_number kind)
  unfolding op_of step
  table-without e = rw e (by-table (op_of 4) (step 4) refl refl refl refl)

-- a number that is no kind is carried out as the last
unknown_step : (n : ℕ) → unknown_kind n ≡ true → step 4 ≡ step n
unfolding step
unknown_step n u =
    let x = ne_eqb n 1 (other 1 refl) in
    let y = ne_eqb n 2 (other 2 refl) in
    let z = ne_eqb n 3 (other 3 refl) in
    by-table (step 4) (step n) (rw (x, y, z)) (rw (x, y, z)) (rw (x, y, z)) (rw (x, y, z))
  where
    other : (k : ℕ) → unknown_kind k ≡ false → n ≡ k → ⊥
    other k f e = true≢false (sym u ∙ ap unknown_kind e ∙ f)

kind-read : (n : ℕ) (r : Result StepKind Refusal) → MatchResult r (λ kind. kind_number kind ≡ n) (λ e. (refusal_number e ≡ 8) × (unknown_kind n ≡ true))
    → step (kind_number (result_unwrap_or r Without)) ≡ step n
kind-read n (Ok kind) e = ap step e
kind-read n (Err f) e = unknown_step n e.1

-- ---- places

twice : (i : ℕ) → 2 * suc i ≡ suc (suc (2 * i))
twice i = omega arith

length-ands : (vs : List ℕ) → length (ands vs) ≡ 2 * length vs
unfolding ands
length-ands [] = refl
length-ands (v ∷ vs) = omega (arith, length-ands vs)

ands-kind : (vs : List ℕ) (i : ℕ) → i < length vs → get_or (ands vs) (2 * i) 0 ≡ 2
unfolding ands
ands-kind [] i h = absurd (omega arith)
ands-kind (v ∷ vs) zero h = refl
ands-kind (v ∷ vs) (suc i) h = rw (twice i) (ands-kind vs i (omega arith))

pub length-take_then_ands : (vs : List ℕ) → length (take_then_ands vs) ≡ 2 * length vs
unfolding take_then_ands
length-take_then_ands [] = refl
length-take_then_ands (v ∷ vs) = omega (arith, length-ands vs)

then-kind : (vs : List ℕ) (i : ℕ) → i < length vs → (i ≡ 0 → ⊥) → 2 ≡ get_or (take_then_ands vs) (2 * i) 0
unfolding take_then_ands
then-kind [] i h z = absurd (omega arith)
then-kind (v ∷ vs) zero h z = absurd (z refl)
then-kind (v ∷ vs) (suc i) h z = sym (rw (twice i) (ands-kind vs i (omega arith)))

take-kind : (vs : List ℕ) → 0 < length vs → 1 ≡ get_or (take_then_ands vs) 0 0
unfolding take_then_ands
take-kind [] h = absurd (omega arith)
take-kind (v ∷ vs) h = refl

module _ (st : Steps) (i : ℕ) (h : i < length (named (steps_of st))) where
  -- pairs
  module _ (words : Bor (List ℕ)) (e : st ≡ Pairs words) where
    pub pair_in : 2 * i + 1 < length words.now
    pair_in = let g = rw e at h in omega (arith, g, named-few words.now)

    pub pair-value : get_or words.now (2 * i + 1) 0 ≡ get_or (named (steps_of st)) i 0
    pair-value = rw e (named-at words.now i (rw e at h))

    pub pair-kind : (r : Result StepKind Refusal)
        → MatchResult r (λ kind. kind_number kind ≡ get_or words.now (2 * i) 0) (λ e. (refusal_number e ≡ 8) × (unknown_kind (get_or words.now (2 * i) 0) ≡ true))
        → (kind : StepKind) → kind ≡ result_unwrap_or r Without → step (kind_number kind) ≡ step (get_or (steps_of st) (2 * i) 0)
    pair-kind r k kind d = rw d (kind-read (get_or words.now (2 * i) 0) r k ∙ ap step (rw e refl))

  -- values
  module _ (values : Bor (List ℕ)) (e : st ≡ Values values) where
    pub value_in : i < length values.now
    value_in = rw (e, named-take_then_ands values.now) at h

    pub kind-first : i ≡ 0 → step 1 ≡ step (get_or (steps_of st) (2 * i) 0)
    kind-first z = let l = value_in in ap step (rw (e, z) (take-kind values.now (omega arith)))

    pub kind-later : (i ≡ 0 → ⊥) → step 2 ≡ step (get_or (steps_of st) (2 * i) 0)
    kind-later z = ap step (rw e (then-kind values.now i value_in z))

    pub value_there : get_or values.now i 0 ≡ get_or (named (steps_of st)) i 0
    value_there = rw (e, named-take_then_ands values.now) refl

-- how many there are
module _ (st : Steps) where
  pub pairs-number : (words : Bor (List ℕ)) → st ≡ Pairs words → length words.now / 2 ≡ length (named (steps_of st))
  pairs-number words e = rw e (sym (length-named words.now))

  pub values-number : (values : Bor (List ℕ)) → st ≡ Values values → length values.now ≡ length (named (steps_of st))
  values-number values e = rw (e, named-take_then_ands values.now) refl
