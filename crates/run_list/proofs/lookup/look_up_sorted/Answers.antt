use Rattle.std.proofs.Common.{rules}
use Rattle.fields.proofs.Answers.{writes-full, writes-done}
use Rattle.fields.proofs.Storing.{map-length}
use Rattle.run_list.proofs.Lookups.{answering-start, answering-next, answering-end}
use Rattle.run_list.proofs.lookup.look_up_sorted.Goals as goal

pub returns-then-out-keys : goal.returns-then-out-keys
returns-then-out-keys g c = search (rules, writes-full, map-length)

pub loop-i-init : goal.loop-i-init
loop-i-init g c = search (rules, answering-start, rw c.words.ensures at c.upper_bounds.ensures)

pub loop-i-preserved : goal.loop-i-preserved
loop-i-preserved g c = search (rules, answering-next)

pub returns : goal.returns
returns g c = search (rules, writes-done, map-length, answering-end)
