-- What all shards together answer, send and offer.
use Rattle.std.proofs.Common.{◌≡◌, inl, inr, ℕ, ◌+◌, ◌<◌, ◌%◌, List, length, get_or, Option, Result, Ok, Err, refl, sym, ap, subst, ◌∙◌, arith, ◌≤◌, Bool, true, false}
use Rattle.std.specs.Prelude.{◌↔◌, IsTrue, IfOk}
use Rattle.warm_stamps.specs.declared.PageId.{PageId}
use Rattle.warm_history.specs.Histories.{HistoryView, entries_of, history, references_of}
use Rattle.warm_history.specs.Since.{carried_since}
use Rattle.warm_history.proofs.HistoryLemmas.{IsHistory-history}
use Rattle.warm_digest.specs.BucketDigests.{digests_of}
use Rattle.warm_frames.specs.Digests.{digest_at}
use Rattle.warm_frames.specs.declared.layout.TheConstants.{MAX_ENTRIES}
use Rattle.warm_frames.specs.declared.message.Message.{Message}
use Rattle.warm_frames.specs.declared.message.Message.TheVariants.{Digest, Entries}
use Rattle.warm_pool.specs.View.{PoolView}
use Rattle.warm_gossip.specs.declared.call.Call.TheVariants.{Offer, Send}
use Rattle.warm_gossip.specs.declared.call.Reply.TheVariants.{Sent}
use Rattle.warm_gossip.specs.declared.fault.NodeFault.{NodeFault}
use Rattle.warm_gossip.specs.declared.fault.NodeFault.TheVariants.{Memory, Pool, StaleSlot}
use Rattle.warm_peer.specs.Answers.{sent}
use Rattle.warm_gossip.specs.Clauses.{Answered}
use Rattle.warm_peer.specs.declared.since.SentPortion.{SentPortion}
use Rattle.warm_peer.specs.Since.{BringsHeld, HasMoreSince, sent_since}
use Rattle.warm_peer.proofs.SinceLemmas.{brings_held}
use Rattle.warm_gossip.specs.State.{NodeState}
use Rattle.warm_shards.specs.Clauses.{SameShards, Together, TogetherAnswered}
use Rattle.warm_visits.specs.Digests.{FillsShard}
use Rattle.warm_shards.specs.Shards.{AreShards, as_node, held, shard_at, whole}
use Rattle.warm_shards.proofs.AreShardsLemmas.{some_shards}
use Rattle.warm_shards.proofs.Buckets.{sent_since_whole, since_whole, sent_whole, shard_horizon}
use Rattle.warm_visits.proofs.PartEntryLemmas.{since_entries}
use Rattle.warm_shards.proofs.Calls.{read_at, same_histories, same_ids, same_whole}
use Rattle.warm_shards.proofs.DigestLemmas.{AreGathered, digest_whole, gathered_more}
use Rattle.std.proofs.lemmas.Bool.{cases_lt}

-- ---- shard by shard, and a caller sees no change

-- the history of a node that is read is that of the shard before
was_history : (old ns : List NodeState) (count k : ℕ) (n d : NodeState) → count ≡ length old
    → k < count → n ≡ get_or ns k d → SameShards old ns → n.history ≡ (shard_at old k).history
was_history old ns count k n d long lt at same =
    ap (λ (x : NodeState). x.history) (read_at ns k n d (omega (arith, same.count)) at) ∙ same_histories old ns same k

pub digests_next : (old ns : List NodeState) (count k : ℕ) (n d : NodeState)
    (digests table new : List (List ℕ)) → AreShards old → count ≡ length old → k < count
    → n ≡ get_or ns k d → SameShards old ns → table ≡ digests_of (entries_of n.history)
    → FillsShard count k digests table new → AreGathered count k (entries_of (whole old)) digests
    → AreGathered count (k + 1) (entries_of (whole old)) new
digests_next old ns count k n d digests table new are long lt at same is fills so_far =
    gathered_more count k (entries_of (whole old)) digests table new fills (λ bucket low here.
    ap (λ (t : List (List ℕ)). digest_at t bucket) (is ∙ ap (λ (h : HistoryView). digests_of (entries_of h)) (was_history old ns count k n d long lt at same))
    ∙ digest_whole old k bucket are (omega arith) low (ap (λ (x : ℕ). bucket % x) (sym long) ∙ here)) so_far

-- ---- what is sent of one bucket

-- the shard of a bucket, as the code finds it
pub bucket_found : (ns : List NodeState) (bucket from len : ℕ) → AreShards ns → len ≡ length ns
    → from ≡ bucket → (from % len < length ns) × (bucket % length ns ≡ from % len)
bucket_found ns bucket from len are long same =
    let some = some_shards ns are in
    (omega (arith, long, some), ap (λ (x : ℕ). x % length ns) (sym same) ∙ ap (λ (x : ℕ). from % x) (sym long))

sent_same : (ns : List NodeState) (j bucket : ℕ) (after : Option PageId) → AreShards ns
    → j < length ns → bucket % length ns ≡ j
    → sent (shard_at ns j).id (shard_at ns j).history bucket after
    ≡ sent (shard_at ns 0).id (whole ns) bucket after
sent_same ns j bucket after are lt is =
    let id = (are.each j lt).id in
    let horizon = shard_horizon ns j are lt (some_shards ns are) in
    let es = sent_whole ns j bucket after MAX_ENTRIES are lt is in
    λ i. Entries (id i) (horizon i) (es i)

pub sends : (ns : List NodeState) (j bucket : ℕ) (after : Option PageId) (n : NodeState)
    (result : Result Message NodeFault) → AreShards ns → j < length ns → bucket % length ns ≡ j
    → n ≡ shard_at ns j → Answered n (Send bucket after) (λ x. Sent x) result n
    → TogetherAnswered ns (Send bucket after) (λ x. Sent x) result ns
sends ns j bucket after n (Ok message) are lt is at answered = λ pool.
    (answered.0 ∙ ap (λ (x : NodeState). sent x.id x.history bucket after) at ∙ sent_same ns j bucket after are lt is, refl)
sends ns j bucket after n (Err Memory) are lt is at answered = λ pool. refl
sends ns j bucket after n (Err (Pool why)) are lt is at none = absurd none
sends ns j bucket after n (Err StaleSlot) are lt is at none = absurd none

pub sent_since_same : (ns : List NodeState) (j bucket since : ℕ) (after : Option PageId)
    → AreShards ns → j < length ns → bucket % length ns ≡ j
    → sent_since (shard_at ns j).id (shard_at ns j).history bucket since after
    ≡ sent_since (shard_at ns 0).id (whole ns) bucket since after
sent_since_same ns j bucket since after are lt is =
    let id = (are.each j lt).id in
    let horizon = shard_horizon ns j are lt (some_shards ns are) in
    let es = sent_since_whole ns j bucket since after MAX_ENTRIES are lt is in
    λ i. Entries (id i) (horizon i) (es i)

-- ---- what is sent of one bucket since a time

pub record SentPortionIs (ns : List NodeState) (bucket since : ℕ) (after : Option PageId)
    (result : Result SentPortion NodeFault) : Type 0 where
  pub sent : IfOk result (λ x. x.message ≡ sent_since (shard_at ns 0).id (whole ns) bucket since after)
  pub more : IfOk result (λ x. IsTrue x.more ↔ HasMoreSince (whole ns) bucket since after)
  pub held : IfOk result (λ x. BringsHeld (whole ns) x.message)

pub more_same : (ns : List NodeState) (j bucket since : ℕ) (after : Option PageId) → AreShards ns
    → j < length ns → bucket % length ns ≡ j
    → HasMoreSince (shard_at ns j).history bucket since after
    ≡ HasMoreSince (whole ns) bucket since after
more_same ns j bucket since after are lt is =
    ap (λ es. MAX_ENTRIES < length es) (since_whole ns j bucket since after are lt is)

held_since : (ns : List NodeState) (bucket since : ℕ) (after : Option PageId) (id : ℕ)
    → BringsHeld (whole ns) (sent_since id (whole ns) bucket since after)
held_since ns bucket since after id =
    brings_held id (whole ns) bucket since MAX_ENTRIES after (entries_of (history (carried_since (references_of (whole ns)) bucket since after MAX_ENTRIES)))
    (since_entries (whole ns) bucket since after MAX_ENTRIES (IsHistory-history (held ns)))

pub sends_since : (ns : List NodeState) (j bucket since : ℕ) (after : Option PageId) (n : NodeState)
    (result : Result SentPortion NodeFault) → AreShards ns → j < length ns → bucket % length ns ≡ j
    → n ≡ shard_at ns j
    → IfOk result (λ x. x.message ≡ sent_since n.id n.history bucket since after)
    → IfOk result (λ x. IsTrue x.more ↔ HasMoreSince n.history bucket since after)
    → SentPortionIs ns bucket since after result
sends_since ns j bucket since after n (Err why) are lt is at sent more = record { sent = tt; more = tt; held = tt }
sends_since ns j bucket since after n (Ok x) are lt is at sent more =
    let message : x.message ≡ sent_since (shard_at ns 0).id (whole ns) bucket since after = sent ∙ ap (λ (y : NodeState). sent_since y.id y.history bucket since after) at ∙ sent_since_same ns j bucket since after are lt is in
    record {
      sent = message;
      more = subst (λ T. IsTrue x.more ↔ T) (ap (λ (y : NodeState). HasMoreSince y.history bucket since after) at ∙ more_same ns j bucket since after are lt is) more;
      held = subst (BringsHeld (whole ns)) (sym message) (held_since ns bucket since after (shard_at ns 0).id);
    }

-- the same of the shards as a caller sees them
pub portion_found : {ns xs : List NodeState} {n : NodeState} (bucket since from len : ℕ)
    (after : Option PageId) (result : Result SentPortion NodeFault) → ns ≡ xs → AreShards ns
    → len ≡ length ns → from ≡ bucket → n ≡ get_or ns (from % len) n
    → IfOk result (λ x. x.message ≡ sent_since n.id n.history bucket since after)
    → IfOk result (λ x. IsTrue x.more ↔ HasMoreSince n.history bucket since after)
    → SentPortionIs xs bucket since after result
portion_found {ns} {xs} {n} bucket since from len after result view are long same at sent more =
    let found = bucket_found ns bucket from len are long same in
    subst (λ (ys : List NodeState). SentPortionIs ys bucket since after result) view
    (sends_since ns (from % len) bucket since after n result are found.0 found.1 (read_at ns (from % len) n n found.0 at) sent more)

-- ---- an offer

as_same : (old new : List NodeState) → SameShards old new → (pool : PoolView)
    → as_node new pool ≡ as_node old pool
as_same old new same pool =
    let id = same_ids old new same 0 in
    let h = same_whole old new same in
    λ i. record { id = id i; history = h i; pool = pool }

pub offered : (old new : List NodeState) (id horizon : ℕ) (table : List (List ℕ))
    → SameShards old new → id ≡ (shard_at old 0).id → horizon ≡ (whole old).horizon
    → table ≡ digests_of (entries_of (whole old))
    → Together old Offer (Sent (Digest id horizon table)) new
offered old new id horizon table same is at all pool = (λ i. Digest (is i) (at i) (all i), as_same old new same pool)

-- ---- what all shards together would answer, where they are not raised

pub first_horizon : (ns : List NodeState) (n d : NodeState) → AreShards ns → n ≡ get_or ns 0 d
    → n.history.horizon ≡ (whole ns).horizon
first_horizon ns n d are at =
    let some = some_shards ns are in
    ap (λ (x : NodeState). x.history.horizon) (read_at ns 0 n d some at) ∙ shard_horizon ns 0 are some some

pub not_later : (b : Bool) (w t : ℕ) → b ≡ false → (w < t → b ≡ true) → t ≤ w
not_later b w t isnt less = elim (cases_lt w t) [
  | inl below ↦ let wrong : false ≡ true = sym isnt ∙ less below in absurd (cc)
  | inr over ↦ over
]
