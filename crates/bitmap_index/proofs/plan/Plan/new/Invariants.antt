use Rattle.std.proofs.Common.{map, length}
use Rattle.fields.proofs.Storing.{Storing}
use Rattle.index.specs.Search.{place_of}
use Rattle.bitmap_index.specs.Filter.{named}
use Rattle.bitmap_index.specs.Inner.{steps_of}
use Rattle.bitmap_index.proofs.plan.Plan.new.Given as goal

abbrev pub invariant-loop-i : goal.invariant-loop-i
invariant-loop-i l =
    Storing (map (place_of l.index.bytes.now) (named (steps_of l.steps))) (length (named (steps_of l.steps))) l.initial.room l.i l.room
