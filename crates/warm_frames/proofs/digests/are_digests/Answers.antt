use Rattle.warm_frames.proofs.BodyLemmas.{digests_long}
use Rattle.warm_frames.proofs.digests.are_digests.Goals as goal

pub returns : goal.returns
returns c = digests_long c.args.digests.now c.told-digests
