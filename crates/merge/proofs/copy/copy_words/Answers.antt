use Rattle.std.proofs.Common.{rules, ◌≡◌, ◌-◌, ◌/◌, min, length}
use native.Mathlib.Omega.{arith}
use Rattle.merge.proofs.WordCopies.{within, copied_none, copied-words}
use Rattle.merge.proofs.copy.copy_words.Goals as goal

pub returns-then-fit-eq0 : goal.returns-then-fit-eq0
returns-then-fit-eq0 c =
    let none : 0 ≡ min (c.args.count - c.args.from) ((length c.args.out.now - 4) / 8 - c.args.k) = omega arith in
    search (rules, copied_none)

pub copy_part-requires-clause-n_in_bounds : goal.copy_part-requires-clause-n_in_bounds
copy_part-requires-clause-n_in_bounds c = search (rules, within)

pub returns : goal.returns
returns c =
    let fit : c.min-fit.result ≡ min (c.args.count - c.args.from) ((length c.args.out.now - 4) / 8 - c.args.k) = omega arith in
    search (rules, copied-words)
