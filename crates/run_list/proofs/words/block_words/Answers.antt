use Rattle.std.proofs.Common.{rules}
use Rattle.run_list.proofs.WordsInPlace.{words_none, words-few, words-fit, words-whole}
use Rattle.run_list.proofs.words.block_words.Goals as goal

pub returns-then-block-lt4 : goal.returns-then-block-lt4
returns-then-block-lt4 c = search (rules, words_none)

pub overflow_mul-result : goal.overflow_mul-result
overflow_mul-result c = search (rules, words-few)

pub slice_bounds-result-end-2 : goal.slice_bounds-result-end-2
slice_bounds-result-end-2 c = search (rules, words-fit)

pub returns : goal.returns
returns c = search (rules, words-whole)
