-- A call on one shard leaves it the shard that it was.
use Rattle.std.proofs.Common.{◌≡◌, ℕ, ◌<◌, List, [], length, set, get_or, Some, None, Result, Ok, Err, refl, sym, ap, subst, ◌∙◌}
use Rattle.std.specs.Prelude.{IfErr, OnOk}
use Rattle.std.proofs.Math.Seq.{map-set_same}
use Rattle.warm_stamps.specs.declared.PageId.{PageId}
use Rattle.warm_frame_table.specs.Frames.{fresh_frame, nth_frame}
use Rattle.warm_frame_table.specs.Lending.{relent}
use Rattle.warm_pool.specs.View.{PoolView, frame_view}
use Rattle.warm_gossip.specs.declared.call.Call.{Call}
use Rattle.warm_gossip.specs.declared.call.Call.TheVariants.{Pin, Unpin, WarmStep, Write}
use Rattle.warm_gossip.specs.declared.call.Reply.{Reply}
use Rattle.warm_gossip.specs.declared.call.Reply.TheVariants.{Done, Loaded, Pinned, Refused}
use Rattle.warm_gossip.specs.declared.fault.NodeFault.{NodeFault}
use Rattle.warm_gossip.specs.Clauses.{Answered, Goes, NodeWriteBackFails, SameView}
use Rattle.warm_gossip.specs.Engine.{KeepsKnown}
use Rattle.warm_gossip.specs.Lending.{relent_node}
use Rattle.warm_gossip.specs.State.{NodeState, NodeView, node_view}
use Rattle.warm_gossip.proofs.VictimLemmas.{refused}
use Rattle.warm_shards.specs.Laws.{BringsOwn}
use Rattle.warm_shards.specs.Shards.{AreShards, IsShard, shard_at}
use Rattle.warm_visits.specs.ShardNumbers.{shard_of}
use Rattle.warm_shards.proofs.Calls.{alone_known, known_shard, read_at}
use Rattle.warm_shards.proofs.AreShardsLemmas.{still_shards}
use Rattle.warm_shards.proofs.EngineCalls.{frames_shard}
use Rattle.warm_shards.proofs.HoldsPagesLemmas.{steps_stay}

-- calls that leave the history
abbrev pub IsOfPool : Call → Type 0
IsOfPool (Pin p) = Unit {0}
IsOfPool (Unpin slot) = Unit {0}
IsOfPool (Write slot at bytes) = Unit {0}
IsOfPool WarmStep = Unit {0}
IsOfPool call = ⊥

known_after : (n m : NodeState) (call : Call) (reply : Reply) → IsOfPool call → Goes n call reply m
    → KeepsKnown n m
known_after n m call (Refused why) of_pool goes = alone_known n m _ (refused (node_view n) (node_view m) call why goes).0
known_after n m (Pin p) (Pinned slot) of_pool goes = alone_known n m _ goes.0
known_after n m (Unpin slot) Done of_pool goes = alone_known n m _ goes.1
known_after n m (Write slot at bytes) Done of_pool goes = alone_known n m _ goes.1.0
known_after n m WarmStep (Loaded None) of_pool goes = alone_known n m _ goes.1
known_after n m WarmStep (Loaded (Some p)) of_pool goes = alone_known n m _ goes.1.0
known_after n m (Pin p) reply of_pool goes = absurd goes
known_after n m (Unpin slot) reply of_pool goes = absurd goes
known_after n m (Write slot at bytes) reply of_pool goes = absurd goes
known_after n m WarmStep reply of_pool goes = absurd goes
known_after n m call reply of_pool goes = absurd of_pool

goes_shard : (count number latest i : ℕ) (n m : NodeState) (call : Call) (reply : Reply)
    → IsOfPool call → BringsOwn count i call → Goes n call reply m → IsShard count number latest i n
    → IsShard count number latest i m
goes_shard count number latest i n m call reply of_pool brings goes old =
    known_shard count number latest i n m old (known_after n m call reply of_pool goes) (steps_stay count i (node_view n) (node_view m) call reply brings old.own goes).resident

-- after such a call of its own pages, whatever its result
pub answered_shard : {T : Type 0} (count number latest i : ℕ) (n m : NodeState) (call : Call)
    (reply : T → Reply) (result : Result T NodeFault) → IsOfPool call → BringsOwn count i call
    → Answered n call reply result m → IsShard count number latest i n → IsShard count number latest i m
answered_shard count number latest i n m call reply (Ok given) of_pool brings goes =
    goes_shard count number latest i n m call (reply given) of_pool brings goes
answered_shard count number latest i n m call reply (Err why) of_pool brings goes =
    goes_shard count number latest i n m call (Refused why) of_pool brings goes

-- writing back leaves every page in its frame
pub settled_shard : (count number latest i : ℕ) (n m : NodeState) (result : Result Unit NodeFault)
    → OnOk result (SameView n m) → IfErr result (λ why. NodeWriteBackFails n why m)
    → IsShard count number latest i n → IsShard count number latest i m
settled_shard count number latest i n m (Ok given) same failed old =
    frames_shard count number latest i n m (alone_known n m _ same) (ap (λ (x : NodeView). x.pool.frames) same) old
settled_shard count number latest i n m (Err why) same failed old =
    frames_shard count number latest i n m (alone_known n m _ failed.1.0) (ap (λ (x : PoolView). x.frames) failed.1.1.1.becomes) old

-- the shard of a page is found among the shards as a caller sees them
pub found_own : {ns xs : List NodeState} {i : ℕ} (p : PageId) → ns ≡ xs → i ≡ shard_of (length xs) p
    → shard_of (length ns) p ≡ i
found_own {ns} {xs} {i} p same found = ap (λ (ys : List NodeState). shard_of (length ys) p) same ∙ sym found

pub found_below : {ns xs : List NodeState} {i : ℕ} → ns ≡ xs → i < length xs → i < length ns
found_below {ns} {xs} {i} same below = subst (λ (ys : List NodeState). i < length ys) (sym same) below

-- one shard is still the shard that it was, so all are
pub after_call : {ns : List NodeState} {i : ℕ} {n m : NodeState} (d : NodeState) → AreShards ns → i < length ns
    → n ≡ get_or ns i d
    → ((number latest : ℕ) → IsShard (length ns) number latest i n → IsShard (length ns) number latest i m)
    → AreShards (set ns i m)
after_call {ns} {i} {n} {m} d are lt at stays =
    let number = (shard_at ns 0).id in
    let latest = (shard_at ns 0).history.horizon in
    still_shards ns i m are lt (stays number latest (subst (IsShard (length ns) number latest i) (sym (read_at ns i n d lt at)) (are.each i lt)))

-- what is lent of a page leaves it in its frame
pub relent_own : (ns : List NodeState) (i frame : ℕ) (w : List ℕ) → AreShards ns → i < length ns
    → AreShards (set ns i (relent_node (shard_at ns i) frame w))
relent_own ns i frame w are lt =
    let n = shard_at ns i in
    still_shards ns i (relent_node n frame w) are lt
    (frames_shard (length ns) (shard_at ns 0).id (shard_at ns 0).history.horizon i n (relent_node n frame w) (record { id = refl; history = refl })
    (map-set_same frame_view n.pool.frames frame (relent w (nth_frame n.pool.frames frame)) (fresh_frame []) refl) (are.each i lt))
