use Rattle.std.proofs.Common.{◌≡◌, ap, refl, ◌∙◌}
use Rattle.std.proofs.lemmas.List.{get_or_read_under}
use Rattle.std.specs.Vec.{with_item}
use Rattle.warm_frame_table.specs.stored.Lending.{refilled_body, nth_body}
use Rattle.warm_frame_table.proofs.frame.bytes_mut_of.Goals as goal

pub returns : goal.returns
returns c =
    let is : c.index_mut.result.now ≡ nth_body c.args.frames.now.items c.args.at = get_or_read_under c.args.frames.now.items c.args.at _ c.index_mut.result.now _ c.index_mut.ensures.value c.requires c.args.frames.now.ok.0 in
    ((refl, λ w. ap (λ b. with_item c.args.frames.now c.args.at (refilled_body w b)) is), record { writes_back = tt; bytes = c.bytes_mut.ensures.bytes ∙ ap (λ b. b.bytes) is })
