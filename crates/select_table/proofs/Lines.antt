-- The lines of the table, one after another.
use mathlib.Core.Path.{◌≡◌, refl, sym, ap, ◌∙◌}
use mathlib.Core.List.{List, [], ◌∷◌, ◌++◌}
use Prim.Native.Nat.{ℕ, ◌+◌, ◌*◌, ◌/◌, ◌%◌, ◌≤◌, ◌<◌}
use native.Mathlib.Omega.{arith}
use lib.ListN.{length, take, get_or, set, length-set}
use mir.Val.{Fits}
use mir.Syntax.{w8}
use Rattle.std.specs.List.{flat_map}
use Rattle.std.proofs.Common.{append_assoc}
use Rattle.std.proofs.lemmas.Fmt.{decimal_digit}
use Rattle.std.proofs.lemmas.Grind.{flat_map-append}
use Rattle.std.proofs.lemmas.List.{take_more, take_more_set, take_all}
use Rattle.std.proofs.lemmas.List.FromFn.{get_or-map-range_with_len, length-map-range_with_len}
use Rattle.packed.specs.Bits.{bit_at}
use Rattle.byte_select.specs.Select.{entry, table}
use Rattle.byte_select.specs.declared.TheConstants.{SELECT_IN_BYTE}
use Rattle.byte_select.proofs.Nth.{nth-le}
use Rattle.byte_select.proofs.TableRule.{table-right}
use Rattle.select_table.specs.Text.{line, text}

length-table : length table ≡ 2048
unfolding table
length-table = length-map-range_with_len entry 0 2048

-- an entry is one digit
entry-small : (i : ℕ) → i < 2048 → get_or table i 0 ≤ 8
unfolding table entry
entry-small i h =
    let e = get_or-map-range_with_len entry 0 2048 i i 0 h (omega arith) in
    omega (arith, e, nth-le (bit_at (i / 8 ∷ [])) (i % 8) 8)

-- the lines before line i are written
pub record Lines (i : ℕ) (out : List ℕ) : Type 0 where
  pub size : length out ≡ 4096
  pub done : take (2 * i) out ≡ flat_map line (take i table)

pub lines-start : (out : List ℕ) → length out ≡ 4096 → Lines 0 out
lines-start out h = record { size = h; done = refl }

module _ (i : ℕ) (out : List ℕ) (m : Lines i out) (h : i < 2048) (x : ℕ) (e : x ≡ get_or SELECT_IN_BYTE i 0) where
  place : x ≡ get_or table i 0
  place = e ∙ ap (λ (t : List ℕ). get_or t i 0) table-right

  pub digit-fits : Fits w8 (48 + x)
  digit-fits = record { fits = omega (arith, place, entry-small i h) }

  pub lines-next : Lines (i + 1) (set (set out (2 * i) (48 + x)) (2 * i + 1) 10)
  lines-next =
      let first = set out (2 * i) (48 + x) in
      let long = length-set out (2 * i) (48 + x) in
      record {
        size = length-set first (2 * i + 1) 10 ∙ long ∙ m.size;
        done = written ∙ sym listed;
      }
    where
      written : take (2 * (i + 1)) (set (set out (2 * i) (48 + x)) (2 * i + 1) 10) ≡ (flat_map line (take i table) ++ (48 + x) ∷ []) ++ 10 ∷ []
      written =
          let p : 2 * (i + 1) ≡ 2 * i + 1 + 1 = omega arith in
          rw (p, take_more_set (set out (2 * i) (48 + x)) (2 * i + 1) 10 (omega (arith, m.size, length-set out (2 * i) (48 + x))), take_more_set out (2 * i) (48 + x) (omega (arith, m.size)), m.done) refl

      listed : flat_map line (take (i + 1) table) ≡ (flat_map line (take i table) ++ (48 + x) ∷ []) ++ 10 ∷ []
      listed =
          rw (take_more table i 0 (omega (arith, length-table)), flat_map-append line (take i table) (get_or table i 0 ∷ []), ← place, decimal_digit x (omega (arith, place, entry-small i h)))
          (sym (append_assoc (flat_map line (take i table)) ((48 + x) ∷ []) (10 ∷ [])))

pub lines-end : (i : ℕ) (out : List ℕ) → Lines i out → i ≡ 2048 → out ≡ text
unfolding text
lines-end i out m e =
    let all : 2 * i ≡ 4096 = omega arith in
    let l : length out ≤ 4096 = omega (arith, m.size) in
    let t : length table ≤ 2048 = omega (arith, length-table) in
    let d : take 4096 out ≡ flat_map line (take 2048 table) = rw (all, e) at m.done in
    sym (take_all 4096 out l) ∙ d ∙ ap (flat_map line) (take_all 2048 table t)
