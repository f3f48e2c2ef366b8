use Rattle.std.proofs.Common.{refl, ◌∙◌}
use Rattle.warm_history.specs.ReferenceSets.{with_horizon}
use Rattle.warm_history.specs.Histories.{history, references_of}
use Rattle.warm_history.proofs.HistoryLemmas.{IsHistory-history}
use Rattle.warm_frames.proofs.ChunkLemmas.{bucket_ascends}
use Rattle.warm_peer.proofs.answers.push_bucket.Goals as goal

pub push_messages-requires : goal.push_messages-requires
push_messages-requires c =
    let S = with_horizon c.args.horizon (references_of c.args.history.now) in
    bucket_ascends c.args.bucket (history S) c.deref.result.now (c.deref.ensures.value ∙ c.in_ok-entries.ensures) (IsHistory-history S)

pub returns : goal.returns
returns c = rw (c.in_ok-push_messages.ensures, c.greater-kept_from.ensures, c.deref.ensures.value, c.in_ok-entries.ensures) refl
