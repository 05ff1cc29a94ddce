use Rattle.std.proofs.Common.{rules}
use Rattle.fields.proofs.Answers.{writes-full, writes-done}
use Rattle.fields.proofs.Storing.{map-length, map_next, storing-end}
use Rattle.fields.proofs.lookup.look_up_all.Goals as goal

pub returns-then-out-keys : goal.returns-then-out-keys
returns-then-out-keys g c = search (rules, writes-full, map-length)

pub loop-i-preserved : goal.loop-i-preserved
loop-i-preserved g c = search (rules, map_next)

pub returns : goal.returns
returns g c = search (rules, writes-done, map-length, storing-end)
