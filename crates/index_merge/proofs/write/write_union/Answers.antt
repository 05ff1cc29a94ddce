use Rattle.std.proofs.Common.{rules, sym, ◌∙◌}
use Rattle.fields.proofs.Refusals.{ok-number, err-number}
use Rattle.index_merge.proofs.Writing.{union-few, head-limit, entry-none, entry_done}
use Rattle.index_merge.proofs.write.write_union.Goals as goal

pub entry_end-next-requires-clause-words_bound : goal.entry_end-next-requires-clause-words_bound
entry_end-next-requires-clause-words_bound c = search (rules, union-few)

pub write_head-requires : goal.write_head-requires
write_head-requires c =
    head-limit _ _ _ c.entry_end-next.ensures _ _ c.check_room.ensures (ok-number _ (sym c.is_ok.ensures.value ∙ c.if-is_ok.true))

pub returns-then-is_ok : goal.returns-then-is_ok
returns-then-is_ok c =
    entry_done _ _ _ _ c.min-from.ensures _ _ _ c.union_to_block-words.ensures _ c.entry_end-next.ensures _ c.check_room.ensures
    (ok-number _ (sym c.is_ok.ensures.value ∙ c.if-is_ok.true)) _ c.write_head.ensures

pub returns-else-is_ok : goal.returns-else-is_ok
returns-else-is_ok c =
    entry-none _ _ _ _ c.min-from.ensures _ _ _ c.union_to_block-words.ensures _ c.entry_end-next.ensures _ c.check_room.ensures
    (err-number _ (sym c.is_ok.ensures.value ∙ c.if-is_ok.false))
