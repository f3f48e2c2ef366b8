-- Replicas that the same references reached agree.
use Rattle.std.proofs.Common.{◌≡◌, ℕ, ◌<◌, [], length, map, ap, sym, ◌∙◌, arith}
use Rattle.std.proofs.lemmas.List.{get_or-map}
use Rattle.warm_history.specs.Histories.{entries_of, history_of_entries, history}
use Rattle.warm_history.specs.References.{SameReferences}
use Rattle.warm_history.proofs.SetLemmas.{history_of_set}
use Rattle.warm_rank.proofs.EvictionLemmas.{same_references_rank_alike}
use Rattle.warm_gossip.specs.State.{NodeView}
use Rattle.warm_world.specs.Views.{ReplicaView, WorldView}
use Rattle.warm_world.specs.Lists.{index_of_number}
use Rattle.warm_world.specs.States.{ModelState, ReplicaState, reach_of, no_replica}
use Rattle.warm_world.specs.WorldStands.{Alike, WorldStands, ReplicaStands, HistoriesAreExact}
use Rattle.warm_world.specs.WorldStands.{ReplicasAgree}
use Rattle.warm_world.proofs.PairLemmas.{Pairwise-map}

pub histories_are_exact : (w : WorldView) (m : ModelState) → WorldStands w m → HistoriesAreExact w m
histories_are_exact w m st i number =
    let same : map (λ (r : ReplicaView). r.node.history) w.replicas ≡ map (λ (r : ReplicaState). history r.reach) m.replicas =
    Pairwise-map (ReplicaStands m.capacity) (λ r. r.node.history) (λ r. history r.reach) w.replicas m.replicas (λ k a b here. ap (λ (n : NodeView). n.history) here.node_is) st.replicas in
    let lt : index_of_number i < length m.replicas = omega (arith, number.from_one, number.in_range) in
    rw same (get_or-map (λ (r : ReplicaState). history r.reach) m.replicas (index_of_number i) no_replica (history_of_entries []) lt)

pub models_agree : (m : ModelState) (i j : ℕ) → SameReferences (reach_of m i) (reach_of m j)
    → Alike m i j
models_agree m i j same = record { histories = history_of_set (reach_of m i) (reach_of m j) same; ranking = same_references_rank_alike (reach_of m i) (reach_of m j) same }

pub replicas_agree : (w : WorldView) (m : ModelState) → WorldStands w m → ReplicasAgree w m
replicas_agree w m st i j number_i number_j same = let alike = models_agree m i j same in record {
  histories = ap entries_of (histories_are_exact w m st i number_i) ∙ (alike.histories ∙ sym (ap entries_of (histories_are_exact w m st j number_j)));
  ranking = alike.ranking;
}
