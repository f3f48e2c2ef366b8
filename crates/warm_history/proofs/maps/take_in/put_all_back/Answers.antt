use Rattle.std.proofs.Common.{ap, sym, ◌∙◌}
use Rattle.warm_maps.specs.Undo.{undone}
use Rattle.warm_maps.proofs.MapPairLemmas.{undone_last}
use Rattle.warm_history.proofs.maps.take_in.put_all_back.Goals as goal

pub loop-note-preserved : goal.loop-note-preserved
loop-note-preserved c =
    let left : _ = c.pop.new.self.items in
    let pairs : _ = c.loop-note.maps in
    ap (undone left) c.put_back.ensures
    ∙ sym (undone_last left c.in-Some.note pairs)
    ∙ ap (λ t. undone t pairs) (sym c.in-Some.ensures.items)
    ∙ c.loop-note.invariant
