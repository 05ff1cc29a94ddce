use Rattle.std.proofs.Common.{rules}
use Rattle.index.proofs.LookupCalls.{lookup-none, lookup-found}
use Rattle.index.proofs.lookup.bitmap.Goals as goal

pub returns-then-is_err : goal.returns-then-is_err
returns-then-is_err c = search (rules, lookup-none)

pub returns : goal.returns
returns c = search (rules, lookup-found)
