use Rattle.std.proofs.Common.{◌-◌, length, ◌∙◌, ap, arith}
use Rattle.warm_frames.specs.declared.layout.TheConstants.{HEADER_SIZE}
use Rattle.warm_frames.specs.Sizes.{frame_size}
use Rattle.warm_frames.proofs.DecoderLemmas.{header_is, header_said, least_is}
use Rattle.warm_frames.proofs.decoder.size_with.Goals as goal

pub returns : goal.returns
returns c =
    let least = least_is (HEADER_SIZE - length c.args.held.now) (length c.args.piece.now) c.min-more.result c.min-more.ensures in
    c.frame_size.ensures
    ∙ ap frame_size (header_is c.args.held.now c.copy_from_slice.new.self _ c.args.piece.now c.copy_from_slice-2.new.self c.min-more.result _ c.copy_from_slice.ensures.after c.copy_from_slice-2.ensures.after (omega (arith, c.copy_from_slice-2.ensures.len)))
    ∙ header_said c.args.held.now c.args.piece.now c.min-more.result c.requires least.0 least.1
