use Rattle.std.proofs.Common.{[], sym, ◌∙◌, arith}
use Rattle.std.proofs.lemmas.List.{get_or-map}
use Rattle.fields.specs.Bytes.{from_le}
use Rattle.fields.proofs.Storing.{storing-next}
use Rattle.run_list.proofs.block.copy_words.Goals as goal

pub loop-i-preserved : goal.loop-i-preserved
loop-i-preserved c =
    let word = c.word.ensures ∙ sym (get_or-map from_le c.args.words.now c.loop-i.i [] 0 (omega arith)) in
    storing-next _ _ _ _ _ c.loop-i.invariant (omega arith) _ word
