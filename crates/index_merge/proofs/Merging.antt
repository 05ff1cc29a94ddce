-- Two lists of entries merged, one entry at a time: that of the least first value, with the words that either list has first under it.
use mathlib.Core.Path.{◌≡◌, refl, sym, ◌∙◌}
use mathlib.Core.Logic.{⊎_elim}
use mathlib.Core.List.{List, [], ◌∷◌}
use Prim.Native.Nat.{ℕ, suc, ◌+◌, ◌*◌, ◌≤◌, ◌<◌, min}
use native.Mathlib.Nat.{min-eq_left, min-eq_right}
use native.Mathlib.Omega.{arith}
use borrow.Author.Tests.{lt-ltb, le-ltb, eq-eqb, ne_eqb}
use lib.ListN.{length, length-append}
use Rattle.fields.proofs.Tests.{split-eq, split-le}
use Rattle.boundary.specs.Merge.{combine, either}
use Rattle.std.specs.Prelude.{Some, None}
use Rattle.std.proofs.lemmas.Option.{none-some, same_Some}
use Rattle.boundary.specs.Values.{lesser_word}
use Rattle.boundary.proofs.Combining.{combine-length}
use Rattle.boundary.proofs.Uniting.{union_left, union_right}
use Rattle.index.specs.Index.{Entry, entry, entry_bytes, entries_bytes}
use Rattle.index.proofs.Sizes.{length-entry_bytes}
use Rattle.index_merge.specs.Calls.{merged}
use Rattle.index_merge.specs.Inner.{head_of, least_value, first_words, past}

-- ---- no entries in one of them

pub none-merged : (fs : List Entry) → merged [] fs ≡ fs
unfolding merged
none-merged fs = refl

pub merged-none : (es : List Entry) → merged es [] ≡ es
unfolding merged
merged-none [] = refl
merged-none (e ∷ es) = refl

-- ---- the three orders of the first values

pub by_order : {A : Type 0} (a b : ℕ) → (a < b → A) → (a ≡ b → A) → (b < a → A) → A
by_order a b p q r =
    ⊎_elim (λ h. p h.1) (λ h. ⊎_elim (λ k. q k.1) (λ k. r (omega (arith, h.1, k.1))) (split-eq a b)) (split-le (suc a) b)

-- the entry of a value in both
abbrev pub joint : Entry → Entry → Entry
joint e f = entry e.value (combine either e.words f.words)

module _ (e : Entry) (es : List Entry) (f : Entry) (fs : List Entry) where
  pub merged-lesser : e.value < f.value → merged (e ∷ es) (f ∷ fs) ≡ e ∷ merged es (f ∷ fs)
  unfolding merged
  merged-lesser h = rw (lt-ltb e.value f.value h)

  pub merged-equal : e.value ≡ f.value → merged (e ∷ es) (f ∷ fs) ≡ joint e f ∷ merged es fs
  unfolding merged
  merged-equal h = rw (le-ltb e.value f.value (omega arith), le-ltb f.value e.value (omega arith))

  pub merged-greater : f.value < e.value → merged (e ∷ es) (f ∷ fs) ≡ f ∷ merged (e ∷ es) fs
  unfolding merged
  merged-greater h = rw (le-ltb e.value f.value (omega arith), lt-ltb f.value e.value h)

-- ---- one entry

first-here : (e : Entry) (es : List Entry) (v : ℕ) → e.value ≡ v → (first_words v (e ∷ es) ≡ e.words) × (past v (e ∷ es) ≡ es)
first-here e es v h = let k = eq-eqb e.value v h in (rw k, rw k)

first-later : (e : Entry) (es : List Entry) (v : ℕ) → (e.value ≡ v → ⊥) → (first_words v (e ∷ es) ≡ []) × (past v (e ∷ es) ≡ e ∷ es)
first-later e es v h = let k = ne_eqb e.value v h in (rw k, rw k)

-- what is merged from there on
abbrev step : ℕ → List Entry → List Entry → List Entry
step v es fs = entry v (combine either (first_words v es) (first_words v fs)) ∷ merged (past v es) (past v fs)

pub merged-step : (es fs : List Entry) → 0 < length es + length fs → (v : ℕ) → v ≡ least_value es fs → merged es fs ≡ step v es fs
merged-step [] [] h v d = let z : ⊥ = omega arith in absurd z
merged-step [] (f ∷ fs) h v d =
    let a = first-here f fs v (sym d) in
    rw (none-merged (f ∷ fs), a.0, a.1, none-merged fs, union_right f.words, d)
merged-step (e ∷ es) [] h v d =
    let a = first-here e es v (sym d) in
    rw (merged-none (e ∷ es), a.0, a.1, merged-none es, union_left e.words, d)
merged-step (e ∷ es) (f ∷ fs) h v d =
    by_order e.value f.value
    (λ k. let m : v ≡ e.value = d ∙ min-eq_left (omega arith) in
    let a = first-here e es v (sym m) in
    let b = first-later f fs v (λ z. omega arith) in
    rw (merged-lesser e es f fs k, a.0, a.1, b.0, b.1, union_left e.words, m))
    (λ k. let m : v ≡ e.value = d ∙ min-eq_left (omega arith) in
    let a = first-here e es v (sym m) in
    let b = first-here f fs v (sym k ∙ sym m) in
    rw (merged-equal e es f fs k, a.0, a.1, b.0, b.1, m))
    (λ k. let m : v ≡ f.value = d ∙ min-eq_right (omega arith) in
    let a = first-later e es v (λ z. omega arith) in
    let b = first-here f fs v (sym m) in
    rw (merged-greater e es f fs k, a.0, a.1, b.0, b.1, union_right f.words, m))

-- the least of two heads
pub head-least : (es fs : List Entry) (v : ℕ) → lesser_word (head_of es) (head_of fs) ≡ Some v → (0 < length es + length fs) × (v ≡ least_value es fs)
head-least [] [] v e = absurd (none-some v e)
head-least [] (f ∷ fs) v e = (omega arith, sym (same_Some f.value v e))
head-least (e ∷ es) [] v d = (omega arith, sym (same_Some e.value v d))
head-least (e ∷ es) (f ∷ fs) v d = (omega arith, sym (same_Some (min e.value f.value) v d))

pub no-head : (es fs : List Entry) → lesser_word (head_of es) (head_of fs) ≡ None → (es ≡ []) × (fs ≡ [])
no-head [] [] e = (refl, refl)
no-head [] (f ∷ fs) e = absurd (none-some f.value (sym e))
no-head (e ∷ es) [] d = absurd (none-some e.value (sym d))
no-head (e ∷ es) (f ∷ fs) d = absurd (none-some (min e.value f.value) (sym d))

-- ---- length

-- no longer than the entries of both
pub merged-size : (es fs : List Entry) → length (entries_bytes (merged es fs)) ≤ length (entries_bytes es) + length (entries_bytes fs)
unfolding entries_bytes
merged-size [] fs = rw (none-merged fs) (omega arith)
merged-size (e ∷ es) [] = rw (merged-none (e ∷ es)) (omega arith)
merged-size (e ∷ es) (f ∷ fs) =
    let le = length-append (entry_bytes e) (entries_bytes es) in
    let lf = length-append (entry_bytes f) (entries_bytes fs) in
    by_order e.value f.value
    (λ h. rw (merged-lesser e es f fs h)
    (omega (arith, le, lf, length-append (entry_bytes e) (entries_bytes (merged es (f ∷ fs))), merged-size es (f ∷ fs))))
    (λ h. let u = joint e f in
    rw (merged-equal e es f fs h)
    (omega (
      arith,
      le,
      lf,
      length-append (entry_bytes u) (entries_bytes (merged es fs)),
      length-entry_bytes u,
      length-entry_bytes e,
      length-entry_bytes f,
      combine-length either e.words f.words,
      merged-size es fs,
    )))
    (λ h. rw (merged-greater e es f fs h)
    (omega (arith, le, lf, length-append (entry_bytes f) (entries_bytes (merged (e ∷ es) fs)), merged-size (e ∷ es) fs)))

-- an entry has at least 16 bytes
pub each-sixteen : (es : List Entry) → 16 * length es ≤ length (entries_bytes es)
unfolding entries_bytes
each-sixteen [] = omega arith
each-sixteen (e ∷ es) = omega (arith, length-append (entry_bytes e) (entries_bytes es), length-entry_bytes e, each-sixteen es)
