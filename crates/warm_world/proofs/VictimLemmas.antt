-- The evicted page is one of greatest backward 2-distance.
use Rattle.std.proofs.Common.{◌≡◌, ◌≢◌, ◌⊎◌, ℕ, ◌<◌, length, Option, Some, None, refl, ◌∙◌, ap, subst, inl, inr}
use Rattle.std.proofs.lemmas.List.{get_or-set_same}
use Rattle.warm_stamps.specs.declared.PageId.{PageId}
use Rattle.warm_history.specs.Histories.{history}
use Rattle.warm_rank.proofs.VictimLemmas.{victim_is_farthest}
use Rattle.warm_pool.specs.View.{PoolView, IsAbsent, unfixed_pages}
use Rattle.warm_gossip.specs.declared.call.Call.{Call}
use Rattle.warm_gossip.specs.declared.call.Call.TheVariants as call
use Rattle.warm_gossip.specs.declared.call.Reply.{Reply}
use Rattle.warm_gossip.specs.declared.call.Reply.TheVariants as reply
use Rattle.warm_gossip.proofs.VictimLemmas as node
use Rattle.warm_world.specs.declared.event.Event.{Event}
use Rattle.warm_world.specs.declared.event.Event.TheVariants.{Pin, Victim, WarmStep}
use Rattle.warm_world.specs.declared.event.Answer.{Answer}
use Rattle.warm_world.specs.declared.event.Answer.TheVariants.{Page, Refused}
use Rattle.warm_world.specs.declared.event.WorldFault.TheVariants.{Node}
use Rattle.warm_world.specs.Lists.{index_of_number}
use Rattle.warm_world.specs.States.{ModelState, ReplicaState, replica_node, no_replica, pool_of, reach_of, replica}
use Rattle.warm_world.specs.Effects.{Next, SomeNodeReplies, reply_of}
use Rattle.warm_world.specs.WorldStands.{IsRightVictim, IsEvictedFrom, MayLoad, VictimsAreRight}
use Rattle.warm_world.proofs.WorldLemmas.{replica_there}

-- the node of the replica was asked this call and replied; or nothing has changed
abbrev WasAsked : ModelState → ℕ → Call → ModelState → Type 0
WasAsked old i asked new =
    (new ≡ old)
    ⊎ ((index_of_number i < length old.replicas)
    × ((given : Option Reply) × SomeNodeReplies old i (Some asked) given new))

pinned : (old : ModelState) (i : ℕ) (p : PageId) (answer : Answer) (new : ModelState)
    → Next old (Pin i p) answer new → WasAsked old i (call.Pin p) new
pinned old i p (Refused (Node why)) new next = inr (replica_there old (Pin i p) next.0, (Some (reply.Refused why), next.1))
pinned old i p (Refused fault) new next = inl next.1
pinned old i p answer new next = inr (replica_there old (Pin i p) next.0, (reply_of answer, next.1))

warmed : (old : ModelState) (i : ℕ) (answer : Answer) (new : ModelState)
    → Next old (WarmStep i) answer new → WasAsked old i call.WarmStep new
warmed old i (Refused (Node why)) new next = inr (replica_there old (WarmStep i) next.0, (Some (reply.Refused why), next.1))
warmed old i (Refused fault) new next = inl next.1
warmed old i answer new next = inr (replica_there old (WarmStep i) next.0, (reply_of answer, next.1))

-- what leaves the replica's pool leaves its node's at the call
left_by : (old : ModelState) (i : ℕ) (asked : Call) (new : ModelState) → asked ≢ call.Restart
    → WasAsked old i asked new → (page : PageId) → IsEvictedFrom i old new page
    → IsRightVictim i old page
left_by old i asked new other (inl same) page leaves =
    absurd (subst (λ (m : ModelState). IsAbsent (pool_of m i) page) same leaves.after leaves.before.frame leaves.before.holds)
left_by old i asked new other (inr (low, (Some given, does))) page leaves =
    let pool : PoolView = does.0 in
    let after : pool_of new i ≡ pool =
    ap (λ (m : ModelState). pool_of m i) does.2 ∙ ap (λ (r : ReplicaState). r.pool) (get_or-set_same old.replicas (index_of_number i) (record (replica old (index_of_number i)) { pool = pool }) no_replica low) in
    let gone : IsAbsent pool page = subst (λ (v : PoolView). IsAbsent v page) after leaves.after in
    (node.victims_are_farthest (reach_of old i) (replica_node old i) (record (replica_node old i) { pool = pool }) asked given refl does.1).leaves page other (leaves.before, gone)
left_by old i asked new other (inr (low, (None, never))) page leaves = absurd never

left_of : (old : ModelState) (event : Event) (answer : Answer) (new : ModelState)
    → Next old event answer new → (i : ℕ) (page : PageId) → MayLoad i event
    → IsEvictedFrom i old new page → IsRightVictim i old page
left_of old (Pin j p) answer new next i page is leaves =
    subst (λ n. IsEvictedFrom n old new page → IsRightVictim n old page) is (left_by old j (call.Pin p) new (λ same. absurd (cc)) (pinned old j p answer new next) page) leaves
left_of old (WarmStep j) answer new next i page is leaves =
    subst (λ n. IsEvictedFrom n old new page → IsRightVictim n old page) is (left_by old j call.WarmStep new (λ same. absurd (cc)) (warmed old j answer new next) page) leaves
left_of old event answer new next i page is leaves = absurd is

named_of : (old : ModelState) (i : ℕ) (page : PageId) (new : ModelState)
    → Next old (Victim i) (Page (Some page)) new → IsRightVictim i old page
named_of old i page new next = victim_is_farthest (history (reach_of old i)) (reach_of old i) refl (unfixed_pages (pool_of old i)) page next.1.1.0

pub victims_are_farthest : (old : ModelState) (event : Event) (answer : Answer) (new : ModelState)
    → Next old event answer new → VictimsAreRight old event answer new
victims_are_farthest old event answer new next = record {
  named = λ i page e a. named_of old i page new (subst (λ x. Next old (Victim i) x new) a (subst (λ v. Next old v answer new) e next));
  left = left_of old event answer new next;
}
