use Rattle.std.proofs.Common.{◌≡◌, rules, arith}
use Rattle.fields.specs.Counting.{bit}
use Rattle.run_rank.proofs.RunCalls.{limit, size, begun-few, begun-some, rank-total, rank-fits, rank_is}
use Rattle.run_rank.proofs.index.RunIndex.rank_at.Goals as goal

pub overflow_sub-ended : goal.overflow_sub-ended
overflow_sub-ended c =
    let it = c.args.self.now in
    let listed : c.from.result ≡ bit c.args.found.listed = c.from.ensures in
    omega (arith, listed, begun-some _ it.runs.accepted _ it.entries _ _ c.requires)

pub offset_bounds-self-ended : goal.offset_bounds-self-ended
offset_bounds-self-ended c =
    let it = c.args.self.now in omega (arith, limit _ it.runs.accepted, begun-few _ it.runs.accepted _ it.entries _ _ c.requires)

pub bounds-self-ended : goal.bounds-self-ended
bounds-self-ended c =
    let it = c.args.self.now in omega (arith, size _ it.runs.accepted _ it.entries, begun-few _ it.runs.accepted _ it.entries _ _ c.requires)

pub overflow_mul-ended : goal.overflow_mul-ended
overflow_mul-ended c =
    let it = c.args.self.now in omega (arith, limit _ it.runs.accepted, begun-few _ it.runs.accepted _ it.entries _ _ c.requires)

pub returns-then-ended-self : goal.returns-then-ended-self
returns-then-ended-self c = search (rules, rank-total, c.args.self.now.runs.accepted, c.args.self.now.entries, c.requires)

pub overflow_mul-ended-2 : goal.overflow_mul-ended-2
overflow_mul-ended-2 c =
    let it = c.args.self.now in omega (arith, limit _ it.runs.accepted, begun-few _ it.runs.accepted _ it.entries _ _ c.requires)

pub offset_bounds-self-ended-2 : goal.offset_bounds-self-ended-2
offset_bounds-self-ended-2 c =
    let it = c.args.self.now in omega (arith, limit _ it.runs.accepted, begun-few _ it.runs.accepted _ it.entries _ _ c.requires)

pub bounds-self-ended-2 : goal.bounds-self-ended-2
bounds-self-ended-2 c =
    let it = c.args.self.now in
    omega (arith, c.if-ended-self.false, begun-few _ it.runs.accepted _ it.entries _ _ c.requires)

pub overflow_add-result : goal.overflow_add-result
overflow_add-result c = search (rules, rank-fits, c.args.self.now.runs.accepted, c.args.self.now.entries, c.requires)

pub returns : goal.returns
returns c = search (rules, rank_is, c.args.self.now.runs.accepted, c.args.self.now.entries, c.requires)
