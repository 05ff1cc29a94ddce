use Rattle.std.proofs.Common.{rules}
use Rattle.fields.proofs.Copying.{put-few, put-late, put-fits}
use Rattle.fields.proofs.write.put_field.Goals as goal
use Rattle.fields.proofs.write.put_field.Goals.{else-out-via-then-out+else-at-out, else-out-via-else-out}

pub returns-then-at-out : goal.returns-then-at-out
returns-then-at-out g c = search (rules, put-fits)

pub returns-else-out : goal.returns-else-out
returns-else-out g c = elim c.else-out.branch [ else-out-via-then-out+else-at-out w ↦ search (rules, put-late) | else-out-via-else-out w ↦ search (rules, put-few) ]
