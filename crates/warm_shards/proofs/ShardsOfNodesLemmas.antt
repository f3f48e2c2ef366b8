-- Shards of nodes that have run: each is raised to the latest horizon, and all together are what
-- the nodes were.
use Rattle.std.proofs.Common.{◌≡◌, ℕ, zero, suc, ◌<◌, ◌≤◌, List, [], ◌∷◌, length, max, take, sym, ap, subst, ◌∙◌, arith}
use Rattle.std.proofs.Math.Nat.{le-max_left, le-max_right, le_trans, max-eq_right}
use Rattle.warm_history.specs.ReferenceSets.{with_horizon, ◌∪◌}
use Rattle.warm_history.specs.Histories.{HistoryView, IsHistory, history, references_of}
use Rattle.warm_history.proofs.HistoryLemmas.{IsHistory-history, horizon-history}
use Rattle.warm_history.proofs.JoinLemmas.{raised_to_no_later}
use Rattle.warm_gossip.specs.State.{NodeState, NodeView}
use Rattle.warm_shards.specs.ShardsOfNodes.{CanBeShards}
use Rattle.warm_shards.specs.Shards.{AreShards, IsShard, held, shard_at, whole}
use Rattle.warm_visits.specs.ShardNumbers.{IsShardCount}
use Rattle.warm_visits.specs.Given.{at_horizon}
use Rattle.warm_shards.specs.EachShard.{OfEach, OfFirst, Rises}
use Rattle.warm_shards.proofs.Calls.{takes_own}
use Rattle.warm_shards.proofs.AreShardsLemmas.{all_shards}
use Rattle.warm_visits.proofs.ErrandLemmas.{some_count}
use Rattle.warm_shards.proofs.EachShardLemmas.{gone_all}
use Rattle.warm_shards.proofs.WholeLemmas.{whole_more}
use Rattle.warm_shards.proofs.WholeParts.{parts_taken}

-- ---- horizons

-- the horizon of each is at most that of all
pub at_most : (ns : List NodeState) (i : ℕ) → i < length ns
    → (shard_at ns i).history.horizon ≤ (held ns).horizon
at_most [] i lt = absurd (omega arith)
at_most (n ∷ ns) zero lt = le-max_left n.history.horizon (held ns).horizon
at_most (n ∷ ns) (suc i) lt =
    le_trans (at_most ns i (omega arith)) (le-max_right n.history.horizon (held ns).horizon)

pub raised_horizon : (n m : NodeState) (time : ℕ) → Rises time n m
    → m.history.horizon ≡ max n.history.horizon time
raised_horizon n m time rises =
    ap (λ (v : NodeView). v.history.horizon) rises.0 ∙ horizon-history (with_horizon time (references_of n.history))

-- all together are what the nodes were
pub risen_whole : (ns ms : List NodeState) → IsShardCount (length ns)
    → OfEach (Rises (whole ns).horizon) ns ms → whole ms ≡ whole ns
risen_whole ns ms valid rises =
    let time = (whole ns).horizon in
    parts_taken (at_horizon time) ns ms valid rises.count (λ i lt. ap (λ (v : NodeView). v.history) (rises.each i lt).0)
    ∙ raised_to_no_later (whole ns) time (IsHistory-history (held ns)) (omega arith)

-- ---- they are shards

pub formed_shards : (number : ℕ) (ns ms : List NodeState) → CanBeShards number ns
    → OfEach (Rises (whole ns).horizon) ns ms → AreShards ms
formed_shards number ns ms can rises =
    let time = (whole ns).horizon in
    let some = some_count (length ns) can.count in
    all_shards number time ms (subst IsShardCount (sym rises.count) can.count) (omega (arith, rises.count, some)) (λ i lt.
    subst (λ c. IsShard c number time i (shard_at ms i)) (sym rises.count) (formed i (omega (arith, rises.count))))
  where
    formed : (i : ℕ) → i < length ns
        → IsShard (length ns) number (whole ns).horizon i (shard_at ms i)
    formed i lt =
        let time = (whole ns).horizon in
        let n = shard_at ns i in
        let m = shard_at ms i in
        let up = rises.each i lt in
        let is : m.history ≡ history (with_horizon time (references_of n.history)) = ap (λ (v : NodeView). v.history) up.0 in
        let most : n.history.horizon ≤ time = subst (λ x. n.history.horizon ≤ x) (sym (horizon-history (held ns))) (at_most ns i lt) in
        record {
          id = ap (λ (v : NodeView). v.id) up.0 ∙ can.id i lt;
          horizon = raised_horizon n m time up ∙ max-eq_right most;
          valid = subst IsHistory (sym is) (IsHistory-history (with_horizon time (references_of n.history)));
          own = takes_own (length ns) i _ _ (at_horizon time) (can.own i lt) up.0 tt;
        }

-- ---- the latest horizon

pub latest_more : (ns : List NodeState) (k time latest : ℕ) → k < length ns
    → time ≡ (shard_at ns k).history.horizon → latest ≡ (whole (take k ns)).horizon
    → max time latest ≡ (whole (take (suc k) ns)).horizon
latest_more ns k time latest lt is so_far =
    let R = references_of (whole (take k ns)) in
    let more = references_of (shard_at ns k).history in
    turned time latest (shard_at ns k).history.horizon (whole (take k ns)).horizon is so_far
    ∙ sym (ap (λ (h : HistoryView). h.horizon) (whole_more ns k lt) ∙ horizon-history (R ∪ more))
  where
    turned : (a b c d : ℕ) → a ≡ c → b ≡ d → max a b ≡ max d c
    turned a b c d x y = omega (arith, x, y)

-- the first, as many as there are, are raised: each is
pub risen_each : (ns ms : List NodeState) (time k : ℕ) → time ≡ (whole ns).horizon → length ns ≤ k
    → OfFirst (Rises time) k ns ms → OfEach (Rises (whole ns).horizon) ns ms
risen_each ns ms time k is over risen =
    subst (λ t. OfEach (Rises t) ns ms) is (gone_all (Rises time) ns ms k over risen)
