use Rattle.std.proofs.Common.{rules}
use Rattle.bitmap_index.proofs.FilterRun.{filtering-start, filtering-mid, filtering-mid-part, filtering-next, filtering-last, filtering-end}
use Rattle.bitmap_index.proofs.plan.Plan.apply_pairs.Goals as goal

pub loop-i-init : goal.loop-i-init
loop-i-init c = search (rules, filtering-start, c.args.self.now.index.accepted, c.args.self.now.index.small)

pub slice_bounds-apply-end-in-loop-i-2 : goal.slice_bounds-apply-end-in-loop-i-2
slice_bounds-apply-end-in-loop-i-2 c = search (rules, filtering-mid)

pub slice_bounds-apply-end-in-loop-i-3 : goal.slice_bounds-apply-end-in-loop-i-3
slice_bounds-apply-end-in-loop-i-3 c = search (rules, filtering-mid-part)

pub loop-i-preserved : goal.loop-i-preserved
loop-i-preserved c = search (rules, filtering-next)

pub returns : goal.returns
returns c = search (rules, filtering-end)

pub returns-2 : goal.returns-2
returns-2 c = search (rules, filtering-next, filtering-last)
