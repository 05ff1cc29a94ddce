use Rattle.std.proofs.Common.{rules, arith, Fits, w8, slice_index}
use Rattle.index.proofs.Sizes.{read-accepted, read-entries, read-runs}
use Rattle.index.proofs.bitmap_index.BitmapIndexTryFromRefSliceU8.try_from.Goals as goal

pub invariant_of-result-clause-accepted : goal.invariant_of-result-clause-accepted
invariant_of-result-clause-accepted c = search (rules, read-accepted, c.in_ok-counts.ensures)

pub invariant_of-result-clause-entry_count : goal.invariant_of-result-clause-entry_count
invariant_of-result-clause-entry_count c = search (rules, read-entries, c.in_ok-counts.ensures)

pub invariant_of-result-clause-run_count : goal.invariant_of-result-clause-run_count
invariant_of-result-clause-run_count c = search (rules, read-runs, c.in_ok-counts.ensures)

pub invariant_of-result-clause-small : goal.invariant_of-result-clause-small
invariant_of-result-clause-small c = λ i. let h : Fits w8 (slice_index c.args.bytes.now i) = c.type_inv.bytes i in omega (arith, h)
