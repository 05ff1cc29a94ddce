use Rattle.std.proofs.Common.{rules}
use Rattle.run_list.proofs.Judging.{own-odd, own-found}
use Rattle.run_list.proofs.runs.check_own.Goals as goal

pub returns-then-words-eq1 : goal.returns-then-words-eq1
returns-then-words-eq1 c = search (rules, own-odd)

pub returns : goal.returns
returns c = search (rules, own-found)
