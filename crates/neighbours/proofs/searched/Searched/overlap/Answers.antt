use Rattle.std.proofs.Common.{◌≡◌, rules, arith}
use Rattle.fields.specs.Counting.{bit}
use Rattle.neighbours.proofs.Placing.{begun-few, begun-some, shared-here, shared-above, shared-none}
use Rattle.neighbours.proofs.searched.Searched.overlap.Goals as goal
use Rattle.neighbours.proofs.searched.Searched.overlap.Goals.{else-k-words-via-then-k-words+else-words-k, else-k-words-via-else-k-words}

pub overflow_sub-k : goal.overflow_sub-k
overflow_sub-k c =
    let it = c.args.self.now in
    let listed : c.from.result ≡ bit it.found.listed = c.from.ensures in
    omega (arith, listed, begun-some _ it.runs.small _ _ it.runs.accepted it.placed)

pub overflow_mul-k : goal.overflow_mul-k
overflow_mul-k c = let it = c.args.self.now in omega (arith, begun-few _ it.runs.small _ _ it.runs.accepted it.placed)

pub returns-then-words-k : goal.returns-then-words-k
returns-then-words-k c = let it = c.args.self.now in search (rules, shared-here, it.placed, it.runs.accepted, it.runs.small)

pub returns : goal.returns
returns c =
    let it = c.args.self.now in
    elim c.else-k-words.branch [
      | else-k-words-via-then-k-words+else-words-k w ↦ search (rules, shared-above, it.placed, it.runs.accepted, it.runs.small)
      | else-k-words-via-else-k-words w ↦ search (rules, shared-none, it.placed, it.runs.accepted, it.runs.small)
    ]
