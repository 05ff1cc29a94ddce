-- One pass over records: what is still to come of their word list.
use mathlib.Core.Bool.{Bool, true, false, ◌||◌}
use mathlib.Core.Path.{◌≡◌, refl, sym, ap, ◌∙◌}
use mathlib.Core.List.{List, [], ◌∷◌}
use Prim.Native.Nat.{ℕ, zero, suc, ◌+◌, ◌-◌, ◌*◌, ◌%◌, ◌<◌, ◌≤◌}
use native.Mathlib.Numerals.{add-one}
use native.Mathlib.Omega.{arith}
use lib.ListN.{length, drop, get_or, drop_of_length-le}
use lib.Seq.{drop-cons}
use borrow.Author.Tests.{lt-ltb, le-ltb, le-leb, lt-leb, ne_eqb}
use Rattle.std.specs.Prelude.{Option, Some, None}
use Rattle.fields.specs.Refusal.{when, ◌then◌, refusal_number}
use Rattle.fields.specs.declared.outcome.Refusal.{Refusal}
use Rattle.fields.specs.Limits.{too_long, max_words, max_items}
use Rattle.fields.proofs.Refusals.{refusal_some, then-none, then_some}
use Rattle.run_list.specs.Runs.{covers, has, run_fault, runs_fault, odd, own_fault, fault}
use Rattle.run_list.specs.Rows.{rows}
use Rattle.run_list.specs.Calls.{above}
use Rattle.run_list.proofs.Validity.{run-low, run-some}
use Rattle.ranges.specs.Ranges.{words}
use Rattle.ranges.specs.declared.range.RowRange.{RowRange}

length-words : (xs : List RowRange) → length (words xs) ≡ 2 * length xs
length-words [] = refl
length-words (x ∷ xs) = omega (arith, length-words xs)

-- ---- the limit

pub ranges-long : (xs : List RowRange) → max_items < length xs → 1 ≡ fault (words xs)
unfolding fault too_long when ◌then◌
ranges-long xs h = rw (lt-ltb max_words (length (words xs)) (omega (arith, length-words xs))) refl

-- words of pairs are even in number
own-runs : (xs : List RowRange) → length xs ≤ max_items → fault (words xs) ≡ runs_fault 0 (words xs)
unfolding fault too_long own_fault odd when ◌then◌
own-runs xs h =
    let n = length-words xs in
    rw (le-ltb max_words (length (words xs)) (omega arith), ne_eqb (length (words xs) % 2) 1 (λ e. omega (arith, e)))

-- ---- the records before i are passed: the end of the last of them, their rows, and whether they have the row

pub record Passing (xs : List RowRange) (row i : ℕ) (last : Option ℕ) (sum : ℕ) (listed : Bool) : Type 0 where
  pub within : i ≤ length xs
  pub judged : runs_fault 0 (words xs) ≡ runs_fault (above last) (words (drop i xs))
  pub total : sum + rows (words (drop i xs)) ≡ rows (words xs)
  pub found : listed || has (words (drop i xs)) row ≡ has (words xs) row
  -- no more rows than the least start that may follow
  pub below : sum ≤ above last

-- what `get_or` gives past the end
abbrev none : RowRange
none = record { end = 0; start = 0 }

or-assoc : (a b c : Bool) → (a || b) || c ≡ a || (b || c)
or-assoc true b c = refl
or-assoc false b c = refl

module _ (xs : List RowRange) (row : ℕ) where
  pub passing-start : Passing xs row 0 None 0 false
  passing-start = record { within = omega arith; judged = refl; total = omega arith; found = refl; below = omega arith }

  module _ (i : ℕ) (last : Option ℕ) (sum : ℕ) (listed : Bool) (m : Passing xs row i last sum listed) where
    pub passing-end : length xs ≤ max_items → length xs ≤ i → 0 ≡ fault (words xs)
    unfolding runs_fault
    passing-end l h = sym (own-runs xs l ∙ m.judged ∙ rw (drop_of_length-le xs {i = i} h))

    pub passing-rows : length xs ≤ i → sum ≡ rows (words xs)
    passing-rows h = omega (arith, rw (drop_of_length-le xs {i = i} h) at m.total)

    pub passing-listed : length xs ≤ i → listed ≡ has (words xs) row
    passing-listed h = sym (or-false listed) ∙ (rw (drop_of_length-le xs {i = i} h) at m.found)
      where
        or-false : (a : Bool) → a || false ≡ a
        or-false true = refl
        or-false false = refl

    module _ (h : i < length xs) (s e : ℕ) (es : s ≡ (get_or xs i none).start) (ee : e ≡ (get_or xs i none).end) where
      front : words (drop i xs) ≡ s ∷ e ∷ words (drop (suc i) xs)
      front = rw (drop-cons xs i none h, es, ee)

      step : runs_fault 0 (words xs) ≡ (run_fault (above last) s e then runs_fault (suc e) (words (drop (suc i) xs)))
      unfolding runs_fault
      step = m.judged ∙ rw front

      pub passing-fault : length xs ≤ max_items → (f : Refusal) → refusal_number f ≡ run_fault (above last) s e → refusal_number f ≡ fault (words xs)
      passing-fault l f d = sym (own-runs xs l ∙ step ∙ rw (← d) (then_some (refusal_number f) _ (refusal_some f)))

      module _ (z : 0 ≡ run_fault (above last) s e) where
        order : above last ≤ s
        order = run-low (above last) s e (sym z)

        pub passing-some : s < e
        passing-some = run-some (above last) s e (sym z)

        pub passing-past : sum ≤ s
        passing-past = omega (arith, order, m.below)

        pub passing-next : (n : ℕ) → n ≡ sum + (e - s) → (t : Bool) → t ≡ (listed || covers s e row) → Passing xs row (i + 1) (Some e) n t
        passing-next n en t d =
            record {
              within = omega arith;
              judged = step ∙ then-none _ _ (sym z) ∙ rw (add-one i);
              total = rw (add-one i, en) (omega (arith, m.total, ap rows front));
              found = rw (add-one i, d) (or-assoc listed (covers s e row) _ ∙ (rw front at m.found));
              below = omega (arith, en, m.below, order, passing-some);
            }
