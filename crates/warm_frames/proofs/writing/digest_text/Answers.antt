use Rattle.std.proofs.Common.{◌++◌, ◌∙◌, arith}
use Rattle.warm_frames.proofs.WritingLemmas.{digests_encoded}
use Rattle.warm_frames.proofs.writing.digest_text.Goals as goal

pub returns : goal.returns
returns c = digests_encoded _ c.args.sender c.args.horizon c.args.digests.now c.header.ensures.sender (omega (arith, c.ranges.horizon.fits)) c.as_bytes.ensures.table
    (c.in_ok-extend_from_slice.ensures.items ∙ (λ i. c.in_ok-text.ensures.text i ++ c.as_bytes.ensures.value i))
