use Rattle.std.proofs.Common.{rules, arith}
use Rattle.run_rank.proofs.RunCalls.{select-first, select-place, select-order, select-past, run-place, select-fits, select-found, limit}
use Rattle.run_rank.proofs.index.RunIndex.select_at.Goals as goal

pub returns-then-n-self : goal.returns-then-n-self
returns-then-n-self c = search (rules, select-past, c.args.self.now.runs.accepted, c.args.self.now.entries, c.requires)

pub overflow_sub-j : goal.overflow_sub-j
overflow_sub-j c = search (rules, select-first, c.args.self.now.runs.accepted, c.args.self.now.entries, c.requires)

pub overflow_mul-result : goal.overflow_mul-result
overflow_mul-result c =
    let it = c.args.self.now in
    omega (arith, limit _ it.runs.accepted, run-place _ it.runs.accepted _ it.entries _ _ c.requires c.if-n-self.false)

pub offset_bounds-self-j : goal.offset_bounds-self-j
offset_bounds-self-j c =
    let it = c.args.self.now in
    omega (arith, limit _ it.runs.accepted, run-place _ it.runs.accepted _ it.entries _ _ c.requires c.if-n-self.false)

pub bounds-self-j : goal.bounds-self-j
bounds-self-j c = search (rules, run-place, c.args.self.now.runs.accepted, c.args.self.now.entries, c.requires)

pub offset_bounds-self-j-2 : goal.offset_bounds-self-j-2
offset_bounds-self-j-2 c =
    let it = c.args.self.now in
    omega (arith, limit _ it.runs.accepted, run-place _ it.runs.accepted _ it.entries _ _ c.requires c.if-n-self.false)

pub bounds-self-j-2 : goal.bounds-self-j-2
bounds-self-j-2 c = search (rules, select-place, c.args.self.now.runs.accepted, c.args.self.now.entries, c.requires)

pub overflow_sub-result : goal.overflow_sub-result
overflow_sub-result c = search (rules, select-order, c.args.self.now.runs.accepted, c.args.self.now.entries, c.requires)

pub overflow_add-result : goal.overflow_add-result
overflow_add-result c = search (rules, select-fits, c.args.self.now.runs.accepted, c.args.self.now.entries, c.requires, c.args.self.now.runs.small)

pub returns : goal.returns
returns c = search (rules, select-found, c.args.self.now.runs.accepted, c.args.self.now.entries, c.requires, c.args.self.now.runs.small)
