use Rattle.std.proofs.Common.{Err}
use Rattle.warm_frames.proofs.DecoderLemmas.{broke, header_shown, said}
use Rattle.warm_frames.proofs.decoder.Decoder.feed.Goals as goal

pub returns-in-Err : goal.returns-in-Err
returns-in-Err c =
    let says = said _ c.self.inside.held.items c.args.piece.now _ (Err c.in-Err.fault) c.deref.ensures.value c.in-Err.is c.size_of.ensures in
    broke _ _ c.self.inside.held.items c.args.piece.now c.in-Err.fault c.self.view_is c.if-self.false (header_shown _ c.args.piece.now c.in-Err.fault says)
