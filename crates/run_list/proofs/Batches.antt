-- Searches for several rows at once, one law for each way through the code.
use mathlib.Core.Path.{◌≡◌, refl, sym, ap, ◌∙◌}
use mathlib.Core.Logic.{⊎_elim}
use mathlib.Core.List.{List, ◌++◌, map, append-nil}
use Prim.Native.Nat.{ℕ, ◌+◌, ◌-◌, ◌*◌, ◌/◌, ◌≤◌, ◌<◌, min}
use native.Mathlib.Nat.{sub-zero}
use native.Mathlib.Omega.{arith}
use borrow.Rule.Slice.PartMut.{put_mid}
use lib.ListN.{length, take, drop, get_or, replicate, length-drop, length-map, length-replicate, get_or-replicate, drop_of_length-le}
use lib.Seq.{ext_get_or, sets, length-sets, drop-drop, length-take-le}
use Rattle.std.proofs.lemmas.List.{get_or-map, take-map, drop-map, take-append-drop}
use Rattle.fields.specs.Answers.{zeroed}
use Rattle.fields.proofs.Numbers.{sets-append}
use Rattle.fields.proofs.Clearing.{sets-past, part-all, zeroed-is}
use Rattle.fields.proofs.Tests.{split-le}
use Rattle.run_list.specs.Search.{linear, quarter, searched, Moved}
use Rattle.run_list.proofs.Searching.{Searching, search-start, search-next, search-end}

-- ---- one pass: the places before i have moved

pub record Moving (step : ℕ → ℕ → ℕ) (rows before : List ℕ) (i : ℕ) (after : List ℕ) : Type 0 where
  pub size : length after ≡ length before
  pub moved : (j : ℕ) → j < i → get_or after j 0 ≡ step (get_or rows j 0) (get_or before j 0)
  pub still : (j : ℕ) → i ≤ j → get_or after j 0 ≡ get_or before j 0

-- ---- all passes: size words from each place on are still to be searched

pub record SearchingAll (ws rows places : List ℕ) (size : ℕ) : Type 0 where
  pub one_each : length places ≡ length rows
  pub each : (j : ℕ) → j < length rows → Searching ws (get_or rows j 0) (get_or places j 0) size

module _ (ws rows : List ℕ) where
  pub all-start : (old places : List ℕ) → length old ≡ length rows → places ≡ zeroed 0 (length rows) old → SearchingAll ws rows places (length ws)
  all-start old places h e =
      record { one_each = rw zeros (length-replicate (length rows) 0); each = λ j l. let z : get_or places j 0 ≡ 0 = rw zeros (get_or-replicate (length rows) j 0 0 l) in rw z (search-start ws (get_or rows j 0)) }
    where
      zeros : places ≡ replicate (length rows) 0
      zeros =
          e ∙ zeroed-is old 0 (length rows) (omega arith) (omega arith)
          ∙ rw (sub-zero (length rows), drop_of_length-le old {i = length rows} (omega arith)) (append-nil (replicate (length rows) 0))

  module _ (places : List ℕ) (size : ℕ) (m : SearchingAll ws rows places size) where
    pub all-next : 3 < size → (after : List ℕ) → Moved (λ r at. quarter r ws at (size / 4)) rows places after → SearchingAll ws rows after (size - 3 * (size / 4))
    all-next h after d = record { one_each = d.size ∙ m.one_each; each = λ j l. search-next ws (get_or rows j 0) (get_or places j 0) size (m.each j l) h (get_or after j 0) (d.each j l) }

    pub all-end : size ≤ 3 → (after : List ℕ) → Moved (λ r at. linear r ws at size) rows places after → after ≡ map (λ r. searched r ws) rows
    all-end h after d =
        ext_get_or 0 after (map (λ r. searched r ws) rows) (d.size ∙ m.one_each ∙ sym (length-map rows (λ r. searched r ws)))
        (λ j l.
        let k : j < length rows = omega (arith, l, d.size, m.one_each) in
        search-end ws (get_or rows j 0) (get_or places j 0) size (m.each j k) h (get_or after j 0) (d.each j k) ∙ sym (get_or-map (λ r. searched r ws) rows j 0 0 k))

-- ---- batch by batch: the numbers f of the rows from a place on are still to be stored

pub record Batches (f : ℕ → ℕ) (rows before : List ℕ) (from : ℕ) (out : List ℕ) : Type 0 where
  pub within : from ≤ min (length rows) (length before)
  pub same : length out ≡ length before
  pub rest : sets out from (drop from (map f rows)) ≡ sets before 0 (map f rows)

module _ (f : ℕ → ℕ) (rows before : List ℕ) where
  module _ (from : ℕ) (out : List ℕ) (m : Batches f rows before from out) where
    pub batches-next : (to : ℕ) → from ≤ to → to ≤ min (length rows) (length before) → (p : List ℕ) → p ≡ map f (take (to - from) (drop from rows))
        → Batches f rows before to (put_mid from (to - from) out p)
    batches-next to h k p e =
        let n : length p ≡ to - from = rw e (length-map (take (to - from) (drop from rows)) f ∙ length-take-le (to - from) (drop from rows) (omega (arith, length-drop from rows))) in
        let part : put_mid from (to - from) out p ≡ sets out from p = part-all from (to - from) out p (omega (arith, m.same)) n in
        let front : p ≡ take (to - from) (drop from (map f rows)) = e ∙ sym (ap (take (to - from)) (drop-map f from rows) ∙ take-map f (to - from) (drop from rows)) in
        let later : from + length p ≡ to = omega (arith, n) in
        let t : from + (to - from) ≡ to = omega arith in
        record {
          within = k;
          same = rw part (length-sets out from p ∙ m.same);
          rest =
              rw part (rw later at (sym (sets-append out from p (drop to (map f rows)))) ∙ joined p front t ∙ m.rest);
        }
      where
        joined : (p : List ℕ) → p ≡ take (to - from) (drop from (map f rows)) → from + (to - from) ≡ to → sets out from (p ++ drop to (map f rows)) ≡ sets out from (drop from (map f rows))
        joined p e t =
            let d : drop to (map f rows) ≡ drop (to - from) (drop from (map f rows)) = rw t at (sym (drop-drop (to - from) from (map f rows))) in
            rw (e, d, take-append-drop (to - from) (drop from (map f rows))) refl

    pub batches-end : min (length rows) (length before) ≤ from → out ≡ sets before 0 (map f rows)
    batches-end h =
        ⊎_elim
        (λ t. let d = drop_of_length-le (map f rows) {i = from} (omega (arith, t.1, length-map rows f)) in rw d at m.rest)
        (λ t. sym (sets-past (drop from (map f rows)) out from (omega (arith, t.1, h, m.same))) ∙ m.rest)
        (split-le (length rows) from)
