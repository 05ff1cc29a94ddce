use Rattle.std.proofs.Common.{rules}
use native.Mathlib.Omega.{arith}
use Rattle.run_list.proofs.BlockWords.{word-within, word-part}
use Rattle.index.proofs.words.block_word.Goals as goal

pub overflow_mul-at : goal.overflow_mul-at
overflow_mul-at c = omega (arith, word-within _ _ c.requires)

pub overflow_add-at : goal.overflow_add-at
overflow_add-at c = omega (arith, word-within _ _ c.requires)

pub overflow_add-end : goal.overflow_add-end
overflow_add-end c = omega (arith, word-within _ _ c.requires)

pub slice_bounds-load_word-end : goal.slice_bounds-load_word-end
slice_bounds-load_word-end c = search (rules, word-within)

pub returns : goal.returns
returns c = search (rules, word-part)
