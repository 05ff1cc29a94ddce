use Rattle.std.proofs.Common.{rules}
use Rattle.fields.proofs.Storing.{map_next}
use Rattle.bitmap_index.proofs.NamedValues.{places-all, places-few, places-number}
use Rattle.bitmap_index.proofs.plan.Plan.new.Goals as goal

pub loop-i-preserved : goal.loop-i-preserved
loop-i-preserved c = search (rules, map_next)

pub invariant_of-result-clause-few : goal.invariant_of-result-clause-few
invariant_of-result-clause-few c = search (rules, places-few)

pub invariant_of-result-clause-number : goal.invariant_of-result-clause-number
invariant_of-result-clause-number c =
    places-number c.args.index.bytes.now c.args.steps c.args.room.now c.loop-i.i c.loop-i.room c.len-n.result c.loop-i.invariant c.len-n.ensures c.loop-i-test.false c.requires.number

pub invariant_of-result-clause-placed : goal.invariant_of-result-clause-placed
invariant_of-result-clause-placed c =
    places-all c.args.index.bytes.now c.args.steps c.args.room.now c.loop-i.i c.loop-i.room c.len-n.result c.loop-i.invariant c.len-n.ensures c.loop-i-test.false
