use Rattle.std.proofs.Common.{rules, arith}
use Rattle.neighbours.proofs.Placing.{begun-few, below-inside, below-none, last-within, last-positive, below-gap}
use Rattle.neighbours.proofs.searched.Searched.below.Goals as goal

pub returns-then-n-eq0 : goal.returns-then-n-eq0
returns-then-n-eq0 c = let it = c.args.self.now in search (rules, below-none, it.placed, it.runs.accepted, it.runs.small)

pub overflow_mul-result : goal.overflow_mul-result
overflow_mul-result c = let it = c.args.self.now in omega (arith, begun-few _ it.runs.small _ _ it.runs.accepted it.placed)

pub offset_bounds-self-n : goal.offset_bounds-self-n
offset_bounds-self-n c = let it = c.args.self.now in omega (arith, begun-few _ it.runs.small _ _ it.runs.accepted it.placed)

pub bounds-self-n : goal.bounds-self-n
bounds-self-n c = let it = c.args.self.now in search (rules, last-within, it.placed, it.runs.accepted, it.runs.small)

pub overflow_sub-result-then-not-self : goal.overflow_sub-result-then-not-self
overflow_sub-result-then-not-self c = let it = c.args.self.now in search (rules, last-positive, it.placed, it.runs.accepted, it.runs.small)

pub returns-then-not-self : goal.returns-then-not-self
returns-then-not-self c = let it = c.args.self.now in search (rules, below-gap, it.placed, it.runs.accepted, it.runs.small)

pub returns : goal.returns
returns c = let it = c.args.self.now in search (rules, below-inside, it.placed, it.runs.accepted, it.runs.small)
