use Rattle.bit_select.proofs.Words.{shifted, narrow-done}
use Rattle.bit_select.proofs.word.narrow.Goals as goal

pub returns : goal.returns
returns c =
    let count = rw (shifted c.args.half c.requires.small) at c.count_word-count.ensures in
    narrow-done _ _ _ _ count c.requires.some _ c.at_most-passed.ensures
