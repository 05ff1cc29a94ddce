use Rattle.std.proofs.Common.{rules}
use Rattle.bitmap_index.proofs.StepLaws.{table-take, table-and, table-or, table-without}
use Rattle.bitmap_index.proofs.steps.StepKind.operation.Goals as goal

pub returns-in-Take : goal.returns-in-Take
returns-in-Take c = search (rules, table-take)

pub returns-in-And : goal.returns-in-And
returns-in-And c = search (rules, table-and)

pub returns-in-Or : goal.returns-in-Or
returns-in-Or c = search (rules, table-or)

pub returns-in-Without : goal.returns-in-Without
returns-in-Without c = search (rules, table-without)
