use Rattle.std.proofs.Common.{rules}
use Rattle.index.proofs.Search.{seeking-start, seek-short, seek_stop, seek-next, seek-end}
use Rattle.index.proofs.lookup.seek.Goals as goal

pub loop-below-init : goal.loop-below-init
loop-below-init c = search (rules, seeking-start)

pub returns-then-index-at : goal.returns-then-index-at
returns-then-index-at c = search (rules, seek-short)

pub returns-then-value-x : goal.returns-then-value-x
returns-then-value-x c = search (rules, seek_stop)

pub loop-below-preserved : goal.loop-below-preserved
loop-below-preserved c = search (rules, seek-next)

pub returns : goal.returns
returns c = search (rules, seek-end)
