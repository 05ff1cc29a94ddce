use Rattle.std.proofs.Common.{rules, arith}
use Rattle.std.proofs.lemmas.Option.{gets}
use Rattle.neighbours.proofs.Placing.{begun-few, above-inside, above-gap}
use Rattle.neighbours.proofs.searched.Searched.above.Goals as goal

pub returns-then-self : goal.returns-then-self
returns-then-self c = let it = c.args.self.now in search (rules, above-inside, it.placed, it.runs.accepted, it.runs.small)

pub overflow_mul-self : goal.overflow_mul-self
overflow_mul-self c = let it = c.args.self.now in omega (arith, begun-few _ it.runs.small _ _ it.runs.accepted it.placed)

pub returns : goal.returns
returns c =
    let it = c.args.self.now in
    search (rules, gets, above-gap _ it.runs.small _ _ it.runs.accepted it.placed, c.if-self.false)
