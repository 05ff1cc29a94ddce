use Rattle.std.proofs.Common.{rules}
use Rattle.index.proofs.Entries.{head-no-value, head-low, head-no-length, head-no-block, head-right}
use Rattle.index.proofs.read.check_head.Goals as goal

pub returns-then-left-lt8 : goal.returns-then-left-lt8
returns-then-left-lt8 c = search (rules, head-no-value)

pub returns-then-is_too_low : goal.returns-then-is_too_low
returns-then-is_too_low c = search (rules, head-low)

pub returns-then-left-lt12 : goal.returns-then-left-lt12
returns-then-left-lt12 c = search (rules, head-no-length)

pub returns-then-left-length_at : goal.returns-then-left-length_at
returns-then-left-length_at c = search (rules, head-no-block)

pub returns : goal.returns
returns c = search (rules, head-right)
