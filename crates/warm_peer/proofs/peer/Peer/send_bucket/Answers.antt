use Rattle.std.proofs.Common.{◌≡◌, IfOk, subst}
use Rattle.std.proofs.Math.Nat.{le_refl}
use Rattle.warm_history.specs.Histories.{HistoryView, IsHistory}
use Rattle.warm_history.proofs.JoinLemmas.{raised_to_no_later}
use Rattle.warm_frames.specs.Chunks.{bucket_messages}
use Rattle.warm_peer.proofs.peer.Peer.send_bucket.Goals as goal

-- raised to its own horizon, the history is as it is
pub returns : goal.returns
returns c =
    let h = c.self.inside.history.history in
    let same = raised_to_no_later h h.horizon (subst IsHistory c.history.ensures c.prove_is_history.ensures) (le_refl h.horizon) in
    rw (← c.self.view_is) (subst (λ (k : HistoryView). IfOk c.bucket_at.result (λ messages. messages.items ≡ bucket_messages c.self.inside.id k c.args.bucket)) same (rw (c.horizon-horizon.ensures, c.history-2.ensures) at c.bucket_at.ensures))
