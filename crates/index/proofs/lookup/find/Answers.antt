use Rattle.std.proofs.Common.{rules}
use Rattle.index.proofs.LookupCalls.{find-done}
use Rattle.index.proofs.lookup.find.Goals as goal

pub returns-in-Some : goal.returns-in-Some
returns-in-Some c = search (rules, find-done, c.in-Some.ensures)
