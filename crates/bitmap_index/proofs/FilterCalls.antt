-- The calls `filter` and `intersect_values`, one law for each way through the code.
use mathlib.Core.Path.{◌≡◌, sym, ap, ◌∙◌}
use mathlib.Core.List.{List, []}
use Prim.Native.Nat.{ℕ, ◌*◌, ◌%◌, ◌≤◌, ◌<◌}
use native.Mathlib.Omega.{arith}
use borrow.Author.Tests.{lt-ltb, le-ltb, eq-eqb, ne_eqb, eqb-false}
use lib.Dec.{ltb}
use lib.ListN.{length, get_or}
use mir.Syntax.{w8}
use mir.Val.{Fits}
use Rattle.std.specs.Prelude.{Result}
use Rattle.fields.specs.Refusal.{when, ◌then◌, refusal_number, refusal_of}
use Rattle.fields.specs.declared.outcome.Refusal.{Refusal}
use Rattle.fields.specs.declared.outcome.Refusal.TheVariants.{TooLong}
use Rattle.fields.specs.Answers.{after, short, short2}
use Rattle.fields.specs.declared.outcome.Answer.{Answer}
use Rattle.fields.proofs.Refusals.{then-none, then-assoc, when-none, front-none, found_first, refusal_some}
use Rattle.fields.proofs.Answers.{accepted-some, gives-refused, gives-cleared, after-cleared}
use Rattle.fields.proofs.Clearing.{zeroed-is}
use Rattle.fields.specs.Limits.{too_long, max_bytes, max_steps}
use Rattle.fields.proofs.Limits.{long-found, long-none}
use Rattle.run_list.specs.Runs.{odd}
use Rattle.index.specs.Index.{Entry, bytes_fault, index_fault, entries, all_runs}
use Rattle.bitmap_index.specs.Filter.{keep, named, kinds_fault, missing_fault, filter_fault, need, Kept, Filtered, values_fault, take_then_ands, Intersected}
use Rattle.bitmap_index.specs.Inner.{steps_fault, steps_of, value_fault, StepsKept, Ran, Cleared}
use Rattle.bitmap_index.specs.declared.steps.Steps.{Steps}
use Rattle.index.proofs.Sizes.{long-first, long_order}
use Rattle.bitmap_index.proofs.FilterLaws.{keep-few}
use Rattle.bitmap_index.proofs.NamedValues.{named-few, named-pairs, named-take_then_ands}
use Rattle.bitmap_index.proofs.StepLaws.{length-take_then_ands}

-- ---- steps

module _ (steps : List ℕ) where
  pub steps-odd : length steps % 2 ≡ 1 → 6 ≡ steps_fault steps
  unfolding odd when ◌then◌
  steps-odd o = rw (eq-eqb (length steps % 2) 1 o)

  pub steps-kinds : (length steps % 2 ≡ 1 → ⊥) → (k : Result (Unit {0}) Refusal) → refusal_of k ≡ kinds_fault steps → refusal_of k ≡ steps_fault steps
  unfolding odd when ◌then◌
  steps-kinds o k e = e ∙ rw (ne_eqb (length steps % 2) 1 o)

-- ---- a refusal, of any number

module _ (f : ℕ) (s steps out scratch : List ℕ) where
  refused : (g : ℕ) → g ≡ (f then short2 (need (entries s)) (length out) (length scratch)) → (g ≡ 0 → ⊥)
      → Kept f s steps out scratch (record { refusal = g; len = 0 }) out scratch
  unfolding after
  refused g e z =
      record { first = gives-refused _ (keep (entries s) steps) (need (entries s)) out g e z; second = sym (accepted-some _ _ scratch (λ k. z (e ∙ k))) }

  call-refused : (g : ℕ) → g ≡ f → (g ≡ 0 → ⊥) → Kept f s steps out scratch (record { refusal = g; len = 0 }) out scratch
  call-refused g e z = refused g (found_first f _ g e z) z

-- ---- the steps over an index that is not refused

module _ (s steps out scratch : List ℕ) (room : ℕ) (two : room ≡ 2 * all_runs (entries s)) where
  abbrev es : List Entry
  es = entries s

  e : room ≡ need es
  unfolding need
  e = two

  pub room-fits : (n : ℕ) → room ≤ n → need es ≤ n
  room-fits n h = omega (arith, e)

  pub kept_full : length out < room → Kept 0 s steps out scratch (record { refusal = 10; len = 0 }) out scratch
  unfolding short2 short when ◌then◌
  kept_full h = refused 0 s steps out scratch 10 (rw (lt-ltb (length out) (need es) (omega (arith, e)))) (λ z. omega arith)

  module _ (h : room ≤ length out) where
    pub kept-full₂ : length scratch < room → Kept 0 s steps out scratch (record { refusal = 10; len = 0 }) out scratch
    unfolding short2 short when ◌then◌
    kept-full₂ k =
        refused 0 s steps out scratch 10 (rw (le-ltb (length out) (need es) (omega (arith, e)), lt-ltb (length scratch) (need es) (omega (arith, e)))) (λ z. omega arith)

    module _ (k : room ≤ length scratch) (i : index_fault s ≡ 0) (all : (j : ℕ) → Fits w8 (get_or s j 0)) where
      few : length (keep es steps) ≤ need es
      few = keep-few s (λ j. omega (arith, all j)) i steps

      fits : short2 (need es) (length out) (length scratch) ≡ 0
      unfolding short2 short when ◌then◌
      fits = rw (le-ltb (length out) (need es) (omega (arith, e)), le-ltb (length scratch) (need es) (omega (arith, e)))

      pub kept-done : (n : ℕ) (out₁ scratch₁ : List ℕ) → Ran s steps out scratch n out₁ scratch₁
          → (out₂ scratch₂ : List ℕ) → Cleared n room out₁ scratch₁ out₂ scratch₂
          → Kept 0 s steps out scratch (record { refusal = 0; len = n }) out₂ scratch₂
      unfolding ◌then◌
      kept-done n out₁ scratch₁ m out₂ scratch₂ w =
          let front = zeroed-is out₁ n room (omega (arith, e, m.number, few)) (omega (arith, e, m.size)) in
          let all_of = zeroed-is scratch₁ 0 room (omega (arith, e)) (omega (arith, e, m.size₂)) in
          record {
            first = gives-cleared (keep es steps) (need es) few _ out fits n out₂ m.number (w.written ∙ front ∙ rw (e, m.front, m.later));
            second = w.wiped ∙ all_of ∙ rw (e, m.later₂) (sym (after-cleared [] (need es) (omega (arith, e)) _ scratch fits));
          }

-- ---- steps whose values are looked up

module _ (s : List ℕ) (st : Steps) (out scratch : List ℕ) (t : List ℕ) (u : Steps) (d : t ≡ s) (e : u ≡ st) where
  pub plan-refused : (f : Refusal) → refusal_number f ≡ value_fault (entries t) u
      → StepsKept s st out scratch (record { refusal = refusal_number f; len = 0 }) out scratch
  plan-refused f is = call-refused (value_fault (entries s) st) s (steps_of st) out scratch (refusal_number f) (rw (d, e) at is) (refusal_some f)

  pub plan-done : 0 ≡ value_fault (entries t) u → (a : Answer) (out' scratch' : List ℕ) → Kept 0 t (steps_of u) out scratch a out' scratch'
      → StepsKept s st out scratch a out' scratch'
  plan-done z a out' scratch' k = rw (sym (rw (d, e) at z)) (rw (d, e) at k)

-- ---- the calls

-- `filter`
module _ (s steps out scratch : List ℕ) where
  missing : ℕ
  missing = missing_fault (entries s) (named steps)

  filter-order : filter_fault s steps ≡ (too_long (2 * max_steps) steps then index_fault s then steps_fault steps then missing)
  unfolding filter_fault index_fault too_long missing
  filter-order =
      ap (λ (f : ℕ). too_long max_bytes s then too_long (2 * max_steps) steps then bytes_fault s then f)
      (sym (then-assoc (when (odd steps) 6) (kinds_fault steps) missing))
      ∙ sym (long_order (ltb max_bytes (length s)) (ltb 8192 (length steps)) (bytes_fault s) (steps_fault steps then missing))

  filter-refused : (e : Refusal) → refusal_number e ≡ filter_fault s steps → Filtered s steps out scratch (record { refusal = refusal_number e; len = 0 }) out scratch
  filter-refused e is = call-refused (filter_fault s steps) s steps out scratch (refusal_number e) is (refusal_some e)

  pub filter-long : 8192 < length steps → Filtered s steps out scratch (record { refusal = 1; len = 0 }) out scratch
  filter-long h = filter-refused TooLong (found_first _ _ 1 (long-found 8192 steps h) (λ z. omega arith) ∙ sym filter-order)

  module _ (few : length steps ≤ 8192) where
    from-index : filter_fault s steps ≡ (index_fault s then steps_fault steps then missing)
    from-index = filter-order ∙ then-none _ _ (sym (long-none 8192 steps few))

    pub filter-faulty : (e : Refusal) → refusal_number e ≡ index_fault s → Filtered s steps out scratch (record { refusal = refusal_number e; len = 0 }) out scratch
    filter-faulty e is = filter-refused e (found_first _ _ (refusal_number e) is (refusal_some e) ∙ sym from-index)

    pub filter-few : length (named steps) ≤ 4096
    filter-few = omega (arith, named-few steps)

    module _ (z : 0 ≡ index_fault s) where
      from-steps : filter_fault s steps ≡ (steps_fault steps then missing)
      from-steps = from-index ∙ then-none _ _ (sym z)

      pub filter-wrong : (e : Refusal) → refusal_number e ≡ steps_fault steps → Filtered s steps out scratch (record { refusal = refusal_number e; len = 0 }) out scratch
      filter-wrong e is = filter-refused e (found_first _ _ (refusal_number e) is (refusal_some e) ∙ sym from-steps)

      module _ (y : 0 ≡ steps_fault steps) where
        pub filter-pairs : 2 * length (named steps) ≡ length steps
        unfolding odd
        filter-pairs = named-pairs steps (eqb-false (length steps % 2) 1 (when-none _ 5 (front-none _ _ (sym y))))

        from-values : filter_fault s steps ≡ missing
        from-values = from-steps ∙ then-none _ _ (sym y)

        pub filter-done : (t : List ℕ) → t ≡ s → (a : Answer) (out' scratch' : List ℕ) → Kept (missing_fault (entries t) (named steps)) t steps out scratch a out' scratch'
            → Filtered s steps out scratch a out' scratch'
        unfolding missing
        filter-done t e a out' scratch' k = rw from-values (rw e at k)

-- `intersect_values`
module _ (s values out scratch : List ℕ) where
  values-order : values_fault s values ≡ (too_long max_steps values then index_fault s)
  unfolding values_fault index_fault too_long
  values-order = sym (long-first (ltb max_bytes (length s)) (ltb 4096 (length values)) (bytes_fault s))

  values-refused : (e : Refusal) → refusal_number e ≡ values_fault s values → Intersected s values out scratch (record { refusal = refusal_number e; len = 0 }) out scratch
  values-refused e is = call-refused (values_fault s values) s (take_then_ands values) out scratch (refusal_number e) is (refusal_some e)

  pub values-long : 4096 < length values → Intersected s values out scratch (record { refusal = 1; len = 0 }) out scratch
  values-long h = values-refused TooLong (found_first _ _ 1 (long-found 4096 values h) (λ z. omega arith) ∙ sym values-order)

  module _ (few : length values ≤ 4096) where
    values-index : values_fault s values ≡ index_fault s
    values-index = values-order ∙ then-none _ _ (sym (long-none 4096 values few))

    pub values-number : length (named (take_then_ands values)) ≤ 4096
    values-number = rw (named-take_then_ands values) few

    pub values-pairs : 2 * length (named (take_then_ands values)) ≡ length (take_then_ands values)
    values-pairs = rw (named-take_then_ands values) (sym (length-take_then_ands values))

    pub values-faulty : (e : Refusal) → refusal_number e ≡ index_fault s → Intersected s values out scratch (record { refusal = refusal_number e; len = 0 }) out scratch
    values-faulty e is = values-refused e (is ∙ sym values-index)

    pub values-done : 0 ≡ index_fault s → (t : List ℕ) → t ≡ s → (a : Answer) (out' scratch' : List ℕ)
        → Kept 0 t (take_then_ands values) out scratch a out' scratch' → Intersected s values out scratch a out' scratch'
    values-done z t e a out' scratch' k = rw (values-index ∙ sym z) (rw e at k)
