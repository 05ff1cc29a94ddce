-- REQUESTS.md, job 5: "Buyers now count a value that the index lacks as a fault. `intersect_values` still treats it as empty, and equals take then ands where
-- all its values are present. [..] A filter naming a missing value in any step is refused 11, after 8 and before 10."
use mathlib.Core.Path.{◌≡◌, refl, sym, ap, ◌∙◌}
use mathlib.Core.Bool.{Bool, true, false, not, cond, ◌&&◌, ◌||◌, and-false, true≢false}
use mathlib.Core.Logic.{◌↔◌, ⊎_elim}
use mathlib.Core.List.{List, [], ◌∷◌}
use Prim.Native.Nat.{ℕ, zero, suc, ◌+◌, ◌*◌, ◌%◌, ◌≤◌, ◌<◌}
use native.Mathlib.Omega.{arith}
use borrow.Author.Tests.{lt-ltb, le-ltb, eqb-true, ne_eqb}
use lib.Dec.{eqb, ltb}
use lib.ListN.{length}
use Rattle.fields.specs.Refusal.{when, ◌then◌}
use Rattle.fields.specs.Bytes.{Bytes}
use Rattle.fields.specs.Limits.{too_long, max_bytes, max_steps}
use Rattle.fields.specs.Answers.{accepted, after, short, short2}
use Rattle.fields.specs.declared.outcome.Answer.{Answer}
use Rattle.fields.proofs.Refusals.{then-none, front-none, rest-none, when_false, when-none}
use Rattle.fields.proofs.Limits.{none-long}
use Rattle.fields.proofs.Tests.{split-le}
use Rattle.run_list.specs.Rising.{All, elem}
use Rattle.run_list.specs.Runs.{has, odd}
use Rattle.run_list.specs.Runs.{run_fault}
use Rattle.run_list.specs.Blocks.{read_fault, block_fault}
use Rattle.index.specs.Index.{Entry, bytes_fault, index_fault, entries_fault, head_fault, entries, words_of, present}
use Rattle.run_list.proofs.Boundaries.{unique}
use Rattle.index.proofs.IndexTrip.{entries-sound}
use Rattle.bitmap_index.proofs.NamedValues.{named-take_then_ands}
use Rattle.bitmap_index.proofs.StepLaws.{length-take_then_ands}
use Rattle.bitmap_index.proofs.FilterLaws.{keep-within, keep-has}
use Rattle.bitmap_index.specs.Filter.{step, keep, says_from, says, named, kinds_fault, missing_fault, filter_fault, need, Filtered, ands, take_then_ands, values_fault, Intersected}

-- ---- which values are counted as a fault

module _ (es : List Entry) where
  all-present : (vs : List ℕ) → missing_fault es vs ≡ 0 → All (λ v. present es v ≡ true) vs
  unfolding missing_fault
  all-present [] z = tt
  all-present (v ∷ vs) z = (not-missing (present es v) (when-none _ 10 (front-none _ _ z)), all-present vs (rest-none _ _ z))
    where
      not-missing : (t : Bool) → not t ≡ false → t ≡ true
      not-missing true e = refl
      not-missing false e = absurd (true≢false e)

  none_missing : (vs : List ℕ) → All (λ v. present es v ≡ true) vs → missing_fault es vs ≡ 0
  unfolding missing_fault when ◌then◌
  none_missing [] a = refl
  none_missing (v ∷ vs) a = rw (a.0, none_missing vs a.1) refl

  -- no fault exactly if each value has an entry
  pub missing-fault : (vs : List ℕ) → (missing_fault es vs ≡ 0) ↔ All (λ v. present es v ≡ true) vs
  missing-fault vs = (all-present vs, none_missing vs)

  -- one that has none, wherever it is, is the fault 11
  pub missing-eleven : (vs : List ℕ) (v : ℕ) → elem v vs ≡ true → present es v ≡ false → missing_fault es vs ≡ 11
  unfolding missing_fault when ◌then◌
  missing-eleven [] v m z = absurd (true≢false (sym m))
  missing-eleven (u ∷ vs) v m z = go (eqb u v) (present es u) refl refl (λ e. missing-eleven vs v (rw e at m) z)
    where
      go : (t p : Bool) → eqb u v ≡ t → present es u ≡ p → (eqb u v ≡ false → missing_fault es vs ≡ 11) → (when (not p) 11 then missing_fault es vs) ≡ 11
      go t false e y later = refl
      go true true e y later = absurd (true≢false (sym y ∙ ap (present es) (eqb-true u v e) ∙ z))
      go false true e y later = later e

-- ---- the call `filter`

-- over an index and steps that have no other fault: 11 is "before 10". It is "after 8" in `filter_fault`, whose other faults come first
module _ (s steps before scratch : List ℕ) (r : Answer) (out scratch' : List ℕ) (c : Filtered s steps before scratch r out scratch')
    (read : index_fault s ≡ 0) (few : length steps ≤ 2 * max_steps) (pairs : odd steps ≡ false) (kinds : kinds_fault steps ≡ 0) where
  no-other : filter_fault s steps ≡ missing_fault (entries s) (named steps)
  unfolding filter_fault index_fault too_long
  no-other =
      then-none _ _ (front-none _ _ read)
      ∙ then-none _ _ (when_false (ltb 8192 (length steps)) 1 (le-ltb 8192 (length steps) few))
      ∙ then-none _ _ (rest-none _ _ read)
      ∙ then-none _ _ (when_false (odd steps) 6 pairs)
      ∙ then-none _ _ kinds

  -- all its values have an entry: only for want of room
  pub filter-listed : All (λ v. present (entries s) v ≡ true) (named steps) → r.refusal ≡ short2 (need (entries s)) (length before) (length scratch)
  filter-listed a = c.first.refusal ∙ then-none _ _ (no-other ∙ none_missing (entries s) (named steps) a)

  -- one has none: 11, whatever the room, and both lists are as they were
  module _ (v : ℕ) (m : elem v (named steps) ≡ true) (z : present (entries s) v ≡ false) where
    eleven : filter_fault s steps ≡ 11
    eleven = no-other ∙ missing-eleven (entries s) (named steps) v m z

    pub filter-missing : (r.refusal ≡ 11) × (r.len ≡ 0) × (out ≡ before) × (scratch' ≡ scratch)
    unfolding after accepted ◌then◌
    filter-missing = (rw eleven at c.first.refusal, rw eleven at c.first.len, rw eleven at c.first.output, rw eleven at c.second)

-- ---- 11 over any index and any steps

-- a fault that is not 11 passes an 11 on only where it is none
Other : ℕ → Type 0
Other f = f ≡ 11 → ⊥

then-eleven : (f g : ℕ) → Other f → (f then g) ≡ 11 → (f ≡ 0) × (g ≡ 11)
unfolding Other ◌then◌
then-eleven zero g n e = (refl, e)
then-eleven (suc f) g n e = absurd (n e)

then-other : (f g : ℕ) → Other f → Other g → Other (f then g)
unfolding Other
then-other f g n m e = m (then-eleven f g n e).1

when-other : (t : Bool) (f : ℕ) → f < 11 → Other (when t f)
unfolding Other when
when-other true f h e = absurd (omega (arith, h, e))
when-other false f h e = absurd (omega (arith, e))

none-other : Other 0
unfolding Other
none-other e = absurd (omega (arith, e))

runs-other : (n : ℕ) (block : List ℕ) (at lo : ℕ) → Other (read_fault n block at lo)
unfolding read_fault run_fault
runs-other zero block at lo = none-other
runs-other (suc n) block at lo =
    then-other _ _
    (then-other _ _ (when-other _ 2 (omega arith)) (then-other _ _ (when-other _ 2 (omega arith)) (then-other _ _ (when-other _ 3 (omega arith)) (when-other _ 4 (omega arith)))))
    (runs-other n block (at + 16) _)

entries-other : (n : ℕ) (s : List ℕ) (at lo : ℕ) → Other (entries_fault n s at lo)
unfolding entries_fault head_fault block_fault
entries-other zero s at lo = none-other
entries-other (suc n) s at lo =
    then-other _ _
    (then-other _ _ (when-other _ 2 (omega arith)) (then-other _ _ (when-other _ 5 (omega arith)) (then-other _ _ (when-other _ 2 (omega arith)) (when-other _ 2 (omega arith)))))
    (then-other _ _ (then-other _ _ (when-other _ 2 (omega arith)) (runs-other _ _ 4 0)) (entries-other n s _ _))

kinds-other : (steps : List ℕ) → Other (kinds_fault steps)
unfolding kinds_fault
kinds-other [] = none-other
kinds-other (kind ∷ []) = none-other
kinds-other (kind ∷ v ∷ steps) = then-other _ _ (when-other _ 8 (omega arith)) (kinds-other steps)

-- a filter that is refused 11 has no other fault, and names a value that has no entry
module _ (s steps before scratch : List ℕ) (r : Answer) (out scratch' : List ℕ) (c : Filtered s steps before scratch r out scratch') (e : r.refusal ≡ 11) where
  room-other : Other (short2 (need (entries s)) (length before) (length scratch))
  unfolding short2 short
  room-other = then-other _ _ (when-other _ 10 (omega arith)) (when-other _ 10 (omega arith))

  own-eleven : filter_fault s steps ≡ 11
  unfolding Other ◌then◌
  own-eleven = front _ _ room-other (sym c.first.refusal ∙ e)
    where
      front : (f g : ℕ) → Other g → (f then g) ≡ 11 → f ≡ 11
      front zero g n y = absurd (n y)
      front (suc f) g n y = y

  pub filter-eleven : (index_fault s ≡ 0) × (length steps ≤ 2 * max_steps) × (odd steps ≡ false) × (kinds_fault steps ≡ 0)
      × (All (λ v. present (entries s) v ≡ true) (named steps) → ⊥)
  unfolding filter_fault index_fault too_long
  filter-eleven =
      let a = then-eleven (too_long max_bytes s) _ (when-other _ 1 (omega arith)) own-eleven in
      let b = then-eleven (too_long (2 * max_steps) steps) _ (when-other _ 1 (omega arith)) a.1 in
      let d = then-eleven (bytes_fault s) _ (then-other _ _ (when-other _ 2 (omega arith)) (entries-other _ s 4 0)) b.1 in
      let p = then-eleven (when (odd steps) 6) _ (when-other _ 6 (omega arith)) d.1 in
      let k = then-eleven (kinds_fault steps) _ (kinds-other steps) p.1 in (
        then-none _ _ a.0 ∙ d.0,
        none-long (2 * max_steps) steps b.0,
        when-none (odd steps) 5 p.0,
        k.0,
        (λ x. absurd (omega (arith, sym (none_missing (entries s) (named steps) x) ∙ k.1))),
      )

-- ---- the call `intersect_values`

ands-kinds : (vs : List ℕ) → kinds_fault (ands vs) ≡ 0
unfolding kinds_fault ands when ◌then◌
ands-kinds [] = refl
ands-kinds (v ∷ vs) = ands-kinds vs

take-kinds : (vs : List ℕ) → kinds_fault (take_then_ands vs) ≡ 0
unfolding kinds_fault take_then_ands when ◌then◌
take-kinds [] = refl
take-kinds (v ∷ vs) = ands-kinds vs

module _ (s values : List ℕ) where
  long-twice : too_long (2 * max_steps) (take_then_ands values) ≡ too_long max_steps values
  unfolding too_long
  long-twice =
      let l = length-take_then_ands values in
      ⊎_elim
      (λ h. rw (le-ltb 8192 (length (take_then_ands values)) (omega (arith, l, h.1)), le-ltb 4096 (length values) h.1) refl)
      (λ h. rw (lt-ltb 8192 (length (take_then_ands values)) (omega (arith, l, h.1)), lt-ltb 4096 (length values) h.1) refl)
      (split-le (length values) 4096)

  pairs-even : odd (take_then_ands values) ≡ false
  unfolding odd
  pairs-even = ne_eqb (length (take_then_ands values) % 2) 1 (λ e. omega (arith, e, length-take_then_ands values))

  -- take then ands are refused for what `intersect_values` is refused for, and then for a missing value
  pub ands-fault : filter_fault s (take_then_ands values) ≡ (values_fault s values then missing_fault (entries s) values)
  unfolding filter_fault values_fault when ◌then◌
  ands-fault =
      rw (long-twice, pairs-even, take-kinds values, named-take_then_ands values)
      (last (too_long max_bytes s) (too_long max_steps values) (bytes_fault s) (missing_fault (entries s) values))
    where
      last : (f g h m : ℕ) → (f then g then h then when false 6 then 0 then m) ≡ ((f then g then h) then m)
      last zero zero zero m = refl
      last zero zero (suc h) m = refl
      last zero (suc g) h m = refl
      last (suc f) g h m = refl

  -- "equals take then ands where all its values are present"
  module _ (a : All (λ v. present (entries s) v ≡ true) values) (before scratch : List ℕ) (r : Answer) (out scratch' : List ℕ) where
    same-fault : filter_fault s (take_then_ands values) ≡ values_fault s values
    unfolding ◌then◌
    same-fault = ands-fault ∙ rw (none_missing (entries s) values a) (alone (values_fault s values))
      where
        alone : (f : ℕ) → (f then 0) ≡ f
        alone zero = refl
        alone (suc f) = refl

    pub intersect-filter : Intersected s values before scratch r out scratch' ↔ Filtered s (take_then_ands values) before scratch r out scratch'
    intersect-filter = (λ c. rw same-fault c, λ c. rw same-fault at c)

-- ---- "still treats it as empty"

missing-words : (es : List Entry) (v : ℕ) → present es v ≡ false → words_of es v ≡ []
unfolding words_of present
missing-words [] v z = refl
missing-words (e ∷ es) v z = go (eqb e.value v) (missing-words es v) z
  where
    go : (t : Bool) → (present es v ≡ false → words_of es v ≡ []) → (t || present es v) ≡ false → cond t e.words (words_of es v) ≡ []
    go true f y = absurd (true≢false y)
    go false f y = f y

ands-no : (vs : List ℕ) (set : ℕ → Bool) → says_from false (ands vs) set ≡ false
unfolding says_from ands step
ands-no [] set = refl
ands-no (v ∷ vs) set = ands-no vs set

ands-missing : (vs : List ℕ) (set : ℕ → Bool) (v : ℕ) → elem v vs ≡ true → set v ≡ false → (b : Bool) → says_from b (ands vs) set ≡ false
unfolding says_from ands step
ands-missing [] set v m z b = absurd (true≢false (sym m))
ands-missing (u ∷ vs) set v m z b =
    go (eqb u v) refl (λ e. ands-missing vs set v (rw e at m) z (b && set u))
  where
    go : (t : Bool) → eqb u v ≡ t → (eqb u v ≡ false → says_from (b && set u) (ands vs) set ≡ false) → says_from (b && set u) (ands vs) set ≡ false
    go true e later = rw (ap set (eqb-true u v e) ∙ z, and-false b) (ands-no vs set)
    go false e later = later e

-- a set without one of the values has no yes
pub says-missing : (vs : List ℕ) (set : ℕ → Bool) (v : ℕ) → elem v vs ≡ true → set v ≡ false → says (take_then_ands vs) set ≡ false
unfolding says says_from take_then_ands step
says-missing [] set v m z = absurd (true≢false (sym m))
says-missing (u ∷ vs) set v m z =
    go (eqb u v) refl (λ e. ands-missing vs set v (rw e at m) z (set u))
  where
    go : (t : Bool) → eqb u v ≡ t → (eqb u v ≡ false → says_from (set u) (ands vs) set ≡ false) → says_from (set u) (ands vs) set ≡ false
    go true e later = rw (ap set (eqb-true u v e) ∙ z) (ands-no vs set)
    go false e later = later e

-- so that no row is left
pub intersect-missing : (s values : List ℕ) → Bytes s → index_fault s ≡ 0 → (v : ℕ) → elem v values ≡ true → present (entries s) v ≡ false
    → keep (entries s) (take_then_ands values) ≡ []
intersect-missing s values all e v m z =
    let es = entries s in
    let o = entries-sound s all e in
    unique (keep es (take_then_ands values)) [] (keep-within es o (take_then_ands values)).valid tt
    (λ r. keep-has es o (take_then_ands values) r ∙ says-missing values (λ u. has (words_of es u) r) v m (rw (missing-words es v z) refl))
