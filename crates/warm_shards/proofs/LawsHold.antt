-- The laws of shards.
use Rattle.std.proofs.Common.{inl, inr, length, Some, sym, ap, ◌∙◌}
use Rattle.warm_history.specs.ReferenceSets.{◌∪◌}
use Rattle.warm_history.specs.Histories.{history, references_of}
use Rattle.warm_history.proofs.JoinLemmas.{history_first, history_of_own_references}
use Rattle.warm_rank.proofs.VictimLemmas.{victim_is_farthest}
use Rattle.warm_pool.specs.View.{unfixed_pages, view_of}
use Rattle.warm_gossip.specs.State.{empty_node, node_view}
use Rattle.warm_gossip.proofs.VictimLemmas.{leaves_as_victim, step_leads}
use Rattle.warm_shards.specs.Laws.{FirstAreGiven, ShardVictimsAreFarthest, ShardsStand, WholeIsOfGiven}
use Rattle.warm_shards.specs.Shards.{as_node, shard_at, whole}
use Rattle.warm_visits.specs.ShardNumbers.{of_first_shards}
use Rattle.warm_shards.proofs.DigestLemmas.{digest_whole}
use Rattle.warm_shards.proofs.StandsForLemmas.{shard_stands}
use Rattle.warm_shards.proofs.Victims.{victim_whole}

pub whole_is_of_given : WholeIsOfGiven
whole_is_of_given S old new call reply stands goes =
    let pool = empty_node.pool in
    (step_leads S call reply (as_node old pool) (as_node new pool) stands (goes pool)).0

pub first_are_given : FirstAreGiven
first_are_given S T old new stands takes =
    let part = of_first_shards (length old) takes.0 T in
    (takes.0, takes.1, takes.2, takes.3 ∙ ap (λ h. history (references_of h ∪ part)) stands ∙ history_first S part)

pub shards_stand : ShardsStand
shards_stand S shards i are lt stands = record {
  stands = shard_stands S shards i are lt stands;
  digests = λ bucket low is. digest_whole shards i bucket are lt low is;
}

pub victims_are_farthest : ShardVictimsAreFarthest
victims_are_farthest S shards i new call reply v are lt stands step other gone =
    let h = (shard_at shards i).history in
    let pool = view_of (shard_at shards i).pool in
    let leads = step_leads (references_of h) call reply (node_view (shard_at shards i)) new (sym (history_of_own_references h (are.each i lt).valid)) step in
    victim_is_farthest (whole shards) S stands (unfixed_pages pool) v (victim_whole shards i (Some v) are lt (elim (leads.1 other) [
      | inl keeps ↦ absurd (gone.1 gone.0.frame (keeps gone.0.frame ∙ gone.0.holds))
      | inr puts ↦ leaves_as_victim puts.3 v gone
    ]))
