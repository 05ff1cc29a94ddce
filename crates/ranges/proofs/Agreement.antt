-- A call on records and the call on words agree wherever the words are those of the records, in pairs.
use mathlib.Core.Path.{◌≡◌, sym, ◌∙◌}
use mathlib.Core.List.{List}
use Prim.Native.Nat.{ℕ}
use Rattle.fields.specs.declared.outcome.Number.{Number}
use Rattle.run_list.specs.declared.Listed.{Listed}
use Rattle.run_list.specs.Calls.{Contains, Counts}
use Rattle.ranges.specs.Ranges.{words}
use Rattle.ranges.specs.declared.range.RowRange.{RowRange}

module _ (xs : List RowRange) (ws : List ℕ) (e : words xs ≡ ws) where
  pub contains-agrees : (row : ℕ) (wrapper call : Listed) → Contains (words xs) row wrapper → Contains ws row call → (wrapper.refusal ≡ call.refusal) × (wrapper.yes ≡ call.yes)
  contains-agrees row wrapper call d c = let k = rw (← e) at c in (d.number ∙ sym k.number, d.says ∙ sym k.says)

  pub count-agrees : (wrapper call : Number) → Counts (words xs) wrapper → Counts ws call → (wrapper.refusal ≡ call.refusal) × (wrapper.number ≡ call.number)
  count-agrees wrapper call d c = let k = rw (← e) at c in (d.number ∙ sym k.number, d.says ∙ sym k.says)
