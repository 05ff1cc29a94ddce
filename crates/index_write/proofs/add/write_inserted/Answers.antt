use Rattle.std.proofs.Common.{rules}
use Rattle.index_write.proofs.Placing.{count_fits, front-room, words-limit, entry-room, after-room, inserted-written}
use Rattle.index_write.proofs.add.write_inserted.Goals as goal

pub overflow_cast-below : goal.overflow_cast-below
overflow_cast-below c = search (rules, count_fits)

pub copy_entries-to-requires-clause-n_in_bounds : goal.copy_entries-to-requires-clause-n_in_bounds
copy_entries-to-requires-clause-n_in_bounds c = search (rules, front-room)

pub write_union-end-requires-clause-words_le_max_words :
    goal.write_union-end-requires-clause-words_le_max_words
write_union-end-requires-clause-words_le_max_words c = search (rules, words-limit)

pub write_union-end-requires-clause-words_in_bounds :
    goal.write_union-end-requires-clause-words_in_bounds
write_union-end-requires-clause-words_in_bounds c = search (rules, entry-room)

pub copy_entries-requires-clause-n_in_bounds : goal.copy_entries-requires-clause-n_in_bounds
copy_entries-requires-clause-n_in_bounds c = search (rules, after-room)

pub returns : goal.returns
returns c =
    inserted-written _ _ _ _ c.requires.inserts_at _ c.requires.fitting _ c.put_u32.ensures _ _ c.copy_entries-to.ensures _ c.requires.words_value _ _ c.write_union-end.ensures _ _
    c.copy_entries.ensures
