-- What a call of one node does to the shards.
use Rattle.std.proofs.Common.{◌≡◌, inl, inr, ℕ, zero, suc, ◌<◌, List, [], ◌∷◌, length, max, set, get_or, Some, refl, sym, ap, subst, ◌∙◌, arith}
use Rattle.std.specs.List.{AllByRecursion}
use Rattle.std.specs.Ordering.{flip_args}
use Rattle.std.proofs.lemmas.List.{length-set}
use Rattle.warm_stamps.specs.declared.PageId.{PageId}
use Rattle.warm_stamps.specs.Distinct.{distinct}
use Rattle.warm_stamps.proofs.DistinctLemmas.{all_of_has, all_take, has_from_distinct}
use Rattle.warm_stamps.proofs.StampLemmas.{IsStrictOrder-flip}
use Rattle.warm_history.specs.ReferenceSets.{ReferenceSet, ◌∪◌}
use Rattle.warm_history.specs.Histories.{HistoryView, IsHistory, entries_of, history, pages, references_of}
use Rattle.warm_history.proofs.HistoryLemmas.{IsHistory-history, horizon-history}
use Rattle.warm_rank.specs.Ranking.{eviction_cmp, hottest_pages}
use Rattle.warm_rank.proofs.EvictionLemmas.{eviction_order}
use Rattle.warm_pool.specs.Unchanged.{KeepsBytes}
use Rattle.warm_pool.specs.View.{FrameView, PoolView, frame_at, view_of}
use Rattle.warm_gossip.specs.Brings.{BringsOnly}
use Rattle.warm_gossip.specs.Engine.{KeepsKnown}
use Rattle.warm_gossip.specs.State.{NodeState, NodeView, node_view}
use Rattle.warm_gossip.specs.Step.{IsNextWarm, nth_page}
use Rattle.warm_gossip.proofs.VictimLemmas.{no_frame}
use Rattle.warm_shards.specs.Clauses.{KeepPools, SameShards}
use Rattle.warm_shards.specs.Shards.{AreShards, HasPagesOf, HoldsPagesOf, IsShard, held, no_shard, shard_at, whole}
use Rattle.warm_visits.specs.ShardNumbers.{shard_of}
use Rattle.warm_shards.proofs.AreShardsLemmas.{each_still, some_shards}
use Rattle.warm_frame_table.proofs.ListLemmas.{at_set}
use Rattle.warm_shards.proofs.Places.{read_at as at_place}
use Rattle.warm_shards.proofs.Pages.{all_held, all_pages, all_taken}
use Rattle.warm_rank.proofs.OutrankedLemmas.{all_has}
use Rattle.warm_pool.proofs.UnchangedLemmas.{more_bytes, same_bytes}

-- ---- pools that stay

pub keep_then : (a b c : List NodeState) → KeepPools a b → KeepPools b c → KeepPools a c
keep_then a b c x y = record {
  count = y.count ∙ x.count;
  views = λ i. y.views i ∙ x.views i;
  bytes = λ i. more_bytes (shard_at a i).pool (shard_at b i).pool (shard_at c i).pool (x.bytes i) (y.bytes i);
}

-- ---- shards that a caller sees as before

pub same_none : (ns : List NodeState) → SameShards ns ns
same_none ns = record { count = refl; views = λ i. refl; bytes = λ i. same_bytes (shard_at ns i).pool }

pub same_one : (old ns : List NodeState) (i : ℕ) (m : NodeState) → i < length ns
    → SameShards old ns → node_view m ≡ node_view (shard_at ns i)
    → KeepsBytes (shard_at ns i).pool m.pool → SameShards old (set ns i m)
same_one old ns i m lt same view bytes = record {
  count = length-set ns i m ∙ same.count;
  views = at_set no_shard (λ k n. node_view n ≡ node_view (shard_at old k)) ns i m lt (view ∙ same.views i) (λ k other. same.views k);
  bytes = at_set no_shard (λ k n. KeepsBytes (shard_at old k).pool n.pool) ns i m lt (more_bytes (shard_at old i).pool (shard_at ns i).pool m.pool (same.bytes i) bytes) (λ k other. same.bytes k);
}

pub same_keeps : (old new : List NodeState) → SameShards old new → KeepPools old new
same_keeps old new same = record {
  count = same.count;
  views = λ i. ap (λ (v : NodeView). v.pool) (same.views i);
  bytes = same.bytes;
}

held_alike : (old new : List NodeState) → length new ≡ length old
    → ((i : ℕ) → (shard_at new i).history ≡ (shard_at old i).history) → held new ≡ held old
held_alike [] [] long alike = refl
held_alike [] (m ∷ ms) long alike = absurd (omega arith)
held_alike (n ∷ ns) [] long alike = absurd (omega arith)
held_alike (n ∷ ns) (m ∷ ms) long alike =
    ap (λ h. references_of h ∪ held ms) (alike 0)
    ∙ ap (λ S. references_of n.history ∪ S) (held_alike ns ms (omega arith) (λ i. alike (suc i)))

pub same_histories : (old new : List NodeState) → SameShards old new → (i : ℕ)
    → (shard_at new i).history ≡ (shard_at old i).history
same_histories old new same i = ap (λ (v : NodeView). v.history) (same.views i)

pub same_ids : (old new : List NodeState) → SameShards old new → (i : ℕ)
    → (shard_at new i).id ≡ (shard_at old i).id
same_ids old new same i = ap (λ (v : NodeView). v.id) (same.views i)

pub same_whole : (old new : List NodeState) → SameShards old new → whole new ≡ whole old
same_whole old new same = ap history (held_alike old new same.count (same_histories old new same))

-- ---- one node is still the shard

-- the pages of a history are of this shard
abbrev pub Knows : ℕ → ℕ → HistoryView → Type 0
Knows count i h = AllByRecursion (λ e. shard_of count e.page ≡ i) (entries_of h)

-- it has taken references to its pages in: its pages are still its own
pub takes_own : (count i : ℕ) (v w : NodeView) (S : ReferenceSet) → HoldsPagesOf count i v
    → w ≡ record v { history = history (references_of v.history ∪ S) }
    → AllByRecursion (λ r. shard_of count r.page ≡ i) S.given → HoldsPagesOf count i w
takes_own count i v w S own is all = record {
  known = subst (λ (x : NodeView). Knows count i x.history) (sym is) (all_taken (λ p. shard_of count p ≡ i) (entries_of v.history) S.given (max v.history.horizon S.horizon) own.known all);
  resident = λ k p at. own.resident k p (ap (λ (x : NodeView). (frame_at x.pool k).page) (sym is) ∙ at);
}

pub takes_shard : (count number latest i : ℕ) (n m : NodeState) (S : ReferenceSet)
    → IsShard count number latest i n
    → node_view m ≡ record (node_view n) { history = history (references_of n.history ∪ S) }
    → AllByRecursion (λ r. shard_of count r.page ≡ i) S.given
    → IsShard count number (max latest S.horizon) i m
takes_shard count number latest i n m S old view all =
    let is : m.history ≡ history (references_of n.history ∪ S) = ap (λ (v : NodeView). v.history) view in
    record {
      id = ap (λ (v : NodeView). v.id) view ∙ old.id;
      horizon = ap (λ h. h.horizon) is ∙ horizon-history (references_of n.history ∪ S) ∙ ap (λ x. max x S.horizon) old.horizon;
      valid = subst IsHistory (sym is) (IsHistory-history (references_of n.history ∪ S));
      own = takes_own count i (node_view n) (node_view m) S old.own view all;
    }

-- the id and the history are unchanged, and no page of another shard is in its pool
pub known_shard : (count number latest i : ℕ) (n m : NodeState) → IsShard count number latest i n
    → KeepsKnown n m → HasPagesOf count i (view_of m.pool) → IsShard count number latest i m
known_shard count number latest i n m old known resident = record {
  id = known.id ∙ old.id;
  horizon = ap (λ (h : HistoryView). h.horizon) known.history ∙ old.horizon;
  valid = subst IsHistory (sym known.history) old.valid;
  own = record { known = subst (Knows count i) (sym known.history) old.own.known; resident = resident };
}

-- at most the pool has changed
pub alone_known : (n m : NodeState) (v : PoolView) → node_view m ≡ record (node_view n) { pool = v }
    → KeepsKnown n m
alone_known n m v is = record {
  id = ap (λ (x : NodeView). x.id) is;
  history = ap (λ (x : NodeView). x.history) is;
}

-- a caller sees what it saw
pub same_shard : (count number latest i : ℕ) (n m : NodeState) → IsShard count number latest i n
    → node_view m ≡ node_view n → IsShard count number latest i m
same_shard count number latest i n m old same =
    known_shard count number latest i n m old (alone_known n m (view_of n.pool) same) (λ k p at. old.own.resident k p (ap (λ (x : NodeView). (frame_at x.pool k).page) (sym same) ∙ at))

pub same_shards : (old new : List NodeState) → SameShards old new → 0 < length old → AreShards old
    → AreShards new
same_shards old new same some are =
    each_still (shard_at old 0).history.horizon old new same.count are (λ i lt was. same_shard (length old) (shard_at old 0).id (shard_at old 0).history.horizon i (shard_at old i) (shard_at new i) was (same.views i))

-- ---- the pages in a pool

-- the frames that a caller sees are unchanged
pub frames_own : (count i : ℕ) (v w : PoolView) → w.frames ≡ v.frames → HasPagesOf count i v
    → HasPagesOf count i w
frames_own count i v w same own k p at =
    own k p (ap (λ fs. let f : FrameView = get_or fs k no_frame in f.page) (sym same) ∙ at)

-- each page that was brought is of the shard
pub all_brought : (count i : ℕ) (brought : PageId → Type 0) (v w : PoolView)
    → BringsOnly brought v w → ((p : PageId) → brought p → shard_of count p ≡ i)
    → HasPagesOf count i v → HasPagesOf count i w
all_brought count i brought v w brings is own k p at =
    elim (brings k p at) [ inl was ↦ own was.frame p was.holds | inr new ↦ is p new ]

each_nth : (P : PageId → Type 0) (ps : List PageId) (i : ℕ) → AllByRecursion P ps → i < length ps
    → P (nth_page ps i)
each_nth P [] i all lt = absurd (omega arith)
each_nth P (p ∷ ps) zero all lt = all.0
each_nth P (p ∷ ps) (suc i) all lt = each_nth P ps i all.1 (omega arith)

-- the page that a shard loads next is its own
pub next_is_own : (count i : ℕ) (n : NodeView) (p : PageId)
    → HoldsPagesOf count i n → IsNextWarm n (Some p) → shard_of count p ≡ i
next_is_own count i n p old next =
    let own : PageId → Type 0 = λ q. shard_of count q ≡ i in
    let R = references_of n.history in
    let falls = flip_args (eviction_cmp R) in
    let order = IsStrictOrder-flip (eviction_cmp R) (eviction_order R) in
    let named : AllByRecursion own (pages R) = all_pages own R (all_held own (entries_of n.history) old.known) in
    let all : AllByRecursion own (distinct falls (pages R)) = all_of_has own (distinct falls (pages R)) (λ q has. all_has own (pages R) q named (has_from_distinct falls order (pages R) q has)) in
    let hottest = hottest_pages R (length n.pool.frames) in
    subst own next.2 (each_nth own hottest next.0 (all_take own (length n.pool.frames) (distinct falls (pages R)) all) next.1)

-- the shard at an index, as the code reads it
pub read_at : (ns : List NodeState) (i : ℕ) (n d : NodeState) → i < length ns → n ≡ get_or ns i d
    → n ≡ shard_at ns i
read_at ns i n d lt is = at_place ns i n d no_shard lt is

-- the id of the replica, as the code reads it of the first shard
pub first_id : {ns : List NodeState} {n : NodeState} {x : ℕ} (d : NodeState) → AreShards ns
    → n ≡ get_or ns 0 d → x ≡ n.id → x ≡ (shard_at ns 0).id
first_id {ns} {n} {x} d are at is = is ∙ ap (λ (m : NodeState). m.id) (read_at ns 0 n d (some_shards ns are) at)
