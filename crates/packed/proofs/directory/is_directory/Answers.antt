use Rattle.std.proofs.Common.{rules, arith}
use Rattle.fields.proofs.WordLists.{word_at}
use Rattle.packed.proofs.Entries.{other_length}
use Rattle.packed.proofs.Directories.{check-start, check-other, check-fits, check-next, check-end}
use Rattle.packed.proofs.directory.is_directory.Goals as goal

pub returns-then-directory-n : goal.returns-then-directory-n
returns-then-directory-n g c = search (rules, other_length, g.met.E.Entry.numbers_length)

pub loop-i-init : goal.loop-i-init
loop-i-init g c = search (rules, check-start, c.args.bits.short, g.met.E.Entry.numbers_length)

pub returns-then-number-before : goal.returns-then-number-before
returns-then-number-before g c =
    let here = word_at g.E.Entry.number g.E.Entry.numbers g.met.E.Entry.numbers_index c.args.directory.now c.loop-i.i _ _ (omega arith) c.index-directory-i.is c.number.ensures in
    search (rules, check-other, here)

pub overflow_add-before : goal.overflow_add-before
overflow_add-before g c = search (rules, check-fits)

pub loop-i-preserved : goal.loop-i-preserved
loop-i-preserved g c =
    let here = word_at g.E.Entry.number g.E.Entry.numbers g.met.E.Entry.numbers_index c.args.directory.now c.loop-i.i _ _ (omega arith) c.index-directory-i.is c.number.ensures in
    search (rules, check-next, here)

pub returns : goal.returns
returns g c = search (rules, check-end)
