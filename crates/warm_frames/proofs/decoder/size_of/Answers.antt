use Rattle.std.proofs.Common.{sym}
use Rattle.warm_frames.proofs.SizeLemmas.{header_short}
use Rattle.warm_frames.proofs.DecoderLemmas.{size_again, size_above, unknown_yet, known_size}
use Rattle.warm_frames.proofs.decoder.size_of.Goals as goal

pub returns-in-Some : goal.returns-in-Some
returns-in-Some c =
    let known = known_size c.args.held.now c.args.known c.in-Some.size c.in-Some.is c.requires in
    (size_again c.args.held.now c.args.piece.now c.in-Some.size known.0, known.1)

pub size_with-requires : goal.size_with-requires
size_with-requires c = header_short c.args.held.now (unknown_yet c.args.held.now c.args.known c.in_default.not-Some c.requires)

pub returns-in-Ok : goal.returns-in-Ok
returns-in-Ok c =
    let short = unknown_yet c.args.held.now c.args.known c.in_default.not-Some c.requires in
    (sym c.in-Ok.ensures, size_above c.args.held.now c.args.piece.now c.in-Ok.size short (sym c.in-Ok.ensures))
