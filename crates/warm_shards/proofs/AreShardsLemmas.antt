-- A shard changes: all are still shards.
use Rattle.std.proofs.Common.{◌≡◌, ℕ, ◌<◌, List, [], length, set, Some, sym, ap, subst, ◌∙◌, arith}
use Rattle.std.specs.List.{AllByRecursion}
use Rattle.std.proofs.lemmas.List.{length-set}
use Rattle.warm_stamps.specs.declared.PageId.{PageId}
use Rattle.warm_history.specs.Histories.{HistoryView, IsHistory, entries_of, history_of_entries_at}
use Rattle.warm_pool.specs.View.{frame_at, view_of}
use Rattle.warm_gossip.specs.State.{NodeState}
use Rattle.warm_shards.specs.Shards.{AreShards, IsShard, no_shard, shard_at}
use Rattle.warm_visits.specs.ShardNumbers.{IsShardCount, shard_of}
use Rattle.warm_frame_table.proofs.ListLemmas.{at_set}
use Rattle.warm_visits.proofs.ErrandLemmas.{some_count}

-- if each is a shard, and all have one id and one horizon, they are the shards of a replica
pub all_shards : (number latest : ℕ) (ns : List NodeState) → IsShardCount (length ns) → 0 < length ns
    → ((i : ℕ) → i < length ns → IsShard (length ns) number latest i (shard_at ns i))
    → AreShards ns
all_shards number latest ns count some each =
    let first = each 0 some in
    record {
      count = count;
      each = λ i lt. let o = each i lt in record { id = o.id ∙ sym first.id; horizon = o.horizon ∙ sym first.horizon; valid = o.valid; own = o.own };
    }

-- a shard changes, and is still that shard
pub still_shards : (ns : List NodeState) (i : ℕ) (m : NodeState) → AreShards ns → i < length ns
    → IsShard (length ns) (shard_at ns 0).id (shard_at ns 0).history.horizon i m
    → AreShards (set ns i m)
still_shards ns i m are lt new =
    let number = (shard_at ns 0).id in
    let latest = (shard_at ns 0).history.horizon in
    let long : length (set ns i m) ≡ length ns = length-set ns i m in
    let shard : (k : ℕ) → k < length ns → IsShard (length ns) number latest k (shard_at (set ns i m) k) = at_set no_shard (λ k n. k < length ns → IsShard (length ns) number latest k n) ns i m lt (λ less. new) (λ k other less. are.each k less) in
    all_shards number latest (set ns i m) (rw long are.count) (omega arith) (λ k less. subst (λ c. IsShard c number latest k (shard_at (set ns i m) k)) (sym long) (shard k (omega arith)))

pub some_shards : (ns : List NodeState) → AreShards ns → 0 < length ns
some_shards ns are = some_count (length ns) are.count

-- if each is still a shard, all of one horizon, they are the shards of the replica
pub each_still : (later : ℕ) (old new : List NodeState) → length new ≡ length old → AreShards old
    → ((i : ℕ) → i < length old
    → IsShard (length old) (shard_at old 0).id (shard_at old 0).history.horizon i (shard_at old i)
    → IsShard (length old) (shard_at old 0).id later i (shard_at new i)) → AreShards new
each_still later old new long are stays =
    all_shards (shard_at old 0).id later new (subst IsShardCount (sym long) are.count) (omega (arith, long, some_shards old are)) (λ i lt.
    let less : i < length old = omega (arith, lt, long) in
    subst (λ c. IsShard c (shard_at old 0).id later i (shard_at new i)) (sym long) (stays i less (are.each i less)))

-- a node of this horizon that knows no page, and has none in its pool, is any shard
pub empty_shard : (count number i horizon : ℕ) (m : NodeState) → m.id ≡ number
    → m.history ≡ history_of_entries_at horizon []
    → ((k : ℕ) (p : PageId) → (frame_at (view_of m.pool) k).page ≡ Some p → ⊥)
    → IsShard count number horizon i m
empty_shard count number i horizon m id none vacant = record {
  id = id;
  horizon = ap (λ (h : HistoryView). h.horizon) none;
  valid = subst IsHistory (sym none) (record { pages_ascend = tt; stamps_descend = tt; none_older = tt });
  own = record {
    known = subst (λ h. AllByRecursion (λ e. shard_of count e.page ≡ i) (entries_of h)) (sym none) tt;
    resident = λ k p at. absurd (vacant k p at);
  };
}
