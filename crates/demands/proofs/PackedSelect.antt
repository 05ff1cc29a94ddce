-- Select in packed bits gives what it gives over the runs that `from_packed_bits` makes of them: "without turning it into runs" (REQUESTS.md, job 6).
use mathlib.Core.Path.{◌≡◌, sym, ◌∙◌}
use mathlib.Core.Bool.{true, true≢false}
use mathlib.Core.Logic.{⊎_elim}
use mathlib.Core.List.{List}
use Prim.Native.Nat.{ℕ, suc, ◌+◌, ◌*◌, ◌≤◌, ◌<◌}
use native.Mathlib.Omega.{arith}
use lib.ListN.{length}
use Rattle.fields.specs.Counting.{count_below}
use Rattle.fields.proofs.Tests.{split-le}
use Rattle.packed.specs.Bits.{bit_at, set_below}
use Rattle.run_list.specs.Runs.{has}
use Rattle.run_list.specs.Rows.{rows}
use Rattle.run_list.proofs.Validity.{valid-even}
use Rattle.run_list.proofs.RowCalls.{rows-count}
use Rattle.packed_build.specs.Packed.{list_of}
use Rattle.packed_build.proofs.PackedLaws.{list_of-valid, list_of-within, list_of-has, bit_at-past}
use Rattle.run_rank.specs.RunRanks.{run_select}
use Rattle.run_rank.proofs.RunLaws.{select_row, select-none}
use Rattle.bit_select.specs.BitSelects.{bit_select}
use Rattle.bit_select.proofs.Words.{count-same}
use Rattle.bit_select.proofs.SelectLaws.{bit-only, bit-past}
use Rattle.bitmap_index.proofs.FilterLaws.{all-weaken}

module _ (bits : List ℕ) (k : ℕ) where
  runs : List ℕ
  runs = list_of bits

  same-count : (n : ℕ) → count_below (has runs) n ≡ count_below (bit_at bits) n
  unfolding runs
  same-count n = count-same (has (list_of bits)) (bit_at bits) n (λ i h. list_of-has bits i)

  all-rows : rows runs ≡ set_below bits (length bits * 8)
  unfolding runs set_below
  all-rows =
      rows-count (list_of bits) (length bits * 8) (list_of-valid bits)
      (all-weaken (λ w. w < length bits * 8 + 1) (λ w. w ≤ length bits * 8) (λ w h. omega arith) (list_of bits) (list_of-within bits))
      ∙ same-count (length bits * 8)

  packed-found : k < rows runs → run_select runs k ≡ bit_select bits (length bits * 8) k
  unfolding runs
  packed-found h =
      let p = run_select (list_of bits) k in
      let s = select_row (list_of bits) k (list_of-valid bits) h in
      let set : bit_at bits p ≡ true = sym (list_of-has bits p) ∙ s.0 in
      let below : p < length bits * 8 = ⊎_elim (λ e. absurd (true≢false (sym set ∙ bit_at-past bits p e.1))) (λ e. e.1) (split-le (length bits * 8) p) in
      sym (bit-only bits (length bits * 8) k p (record { below = below; has = set; before = sym (same-count p) ∙ s.1 }))

  packed-none : rows runs ≤ k → run_select runs k ≡ bit_select bits (length bits * 8) k
  unfolding runs
  packed-none h =
      select-none (list_of bits) k (valid-even (list_of bits) 0 (list_of-valid bits)) h
      ∙ sym (bit-past bits (length bits * 8) k (omega (arith, all-rows, h)))

  pub packed-select : run_select (list_of bits) k ≡ bit_select bits (length bits * 8) k
  unfolding runs
  packed-select = ⊎_elim (λ e. packed-found e.1) (λ e. packed-none (omega (arith, e.1))) (split-le (suc k) (rows runs))
