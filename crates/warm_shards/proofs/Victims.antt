-- A victim of a shard is one over all references.
use Rattle.std.proofs.Common.{◌≡◌, ℕ, suc, ◌<◌, Bool, true, false, List, [], ◌∷◌, map, length, get_or, Option, Some, None, refl, sym, ◌∙◌}
use Rattle.std.specs.Prelude.{◌==◌}
use Rattle.std.specs.List.{AllByRecursion, Contains}
use Rattle.std.proofs.lemmas.List.Elements.{All-contains, All-from_recursion}
use Rattle.warm_stamps.specs.declared.PageId.{PageId}
use Rattle.warm_history.specs.Histories.{hist, references_of}
use Rattle.warm_rank.specs.Laws.{pages_in}
use Rattle.warm_rank.specs.Ranking.{IsVictim, eviction_cmp}
use Rattle.warm_rank.proofs.KeyLemmas.{keys_order_pages, known_keys_rank}
use Rattle.warm_pool.specs.View.{FrameView, PoolView, frame_at, unfixed_page, unfixed_pages, view_of}
use Rattle.warm_gossip.specs.State.{NodeState}
use Rattle.warm_gossip.proofs.VictimLemmas.{no_frame}
use Rattle.warm_shards.specs.Shards.{AreShards, shard_at, whole}
use Rattle.warm_visits.specs.ShardNumbers.{shard_of}
use Rattle.warm_shards.proofs.WholeLemmas.{hist_whole}

-- pages of one shard leave in the same order over what it holds and over what all hold
evicted_alike : (ns : List NodeState) (j : ℕ) (p q : PageId) → AreShards ns → j < length ns
    → shard_of (length ns) p ≡ j → shard_of (length ns) q ≡ j
    → eviction_cmp (references_of (shard_at ns j).history) p q
    ≡ eviction_cmp (references_of (whole ns)) p q
evicted_alike ns j p q are lt own other =
    let R = references_of (shard_at ns j).history in
    sym (keys_order_pages R p q)
    ∙ known_keys_rank (references_of (whole ns)) p q (hist R p) (hist R q) (sym (hist_whole ns j p are lt own)) (sym (hist_whole ns j q are lt other))

all_unfixed : (P : PageId → Type 0) (fs : List FrameView)
    → ((k : ℕ) (p : PageId) → (get_or fs k no_frame).page ≡ Some p → P p)
    → AllByRecursion P (pages_in (map unfixed_page fs))
all_unfixed P [] each = tt
all_unfixed P (f ∷ fs) each = cases (f.fixes == 0) refl f.page refl (all_unfixed P fs (λ k. each (suc k)))
  where
    cases : (b : Bool) → (f.fixes == 0) ≡ b → (page : Option PageId) → f.page ≡ page
        → AllByRecursion P (pages_in (map unfixed_page fs))
        → AllByRecursion P (pages_in (map unfixed_page (f ∷ fs)))
    cases true is None none rest = rw (is, none) rest
    cases true is (Some p) some rest = rw (is, some) (each 0 p some, rest)
    cases false is page any rest = rw is rest

-- what is true of the resident pages is true of those that may leave
pub each_unfixed : (P : PageId → Type 0) (v : PoolView)
    → ((k : ℕ) (p : PageId) → (frame_at v k).page ≡ Some p → P p) → (q : PageId)
    → Contains (unfixed_pages v) q → P q
each_unfixed P v each q there =
    All-contains P (unfixed_pages v) q (All-from_recursion P (unfixed_pages v) (all_unfixed P v.frames each)) there

-- the victim over what a shard holds is the victim over what all hold
pub victim_whole : (ns : List NodeState) (j : ℕ) (v : Option PageId) → AreShards ns → j < length ns
    → IsVictim (references_of (shard_at ns j).history) (unfixed_pages (view_of (shard_at ns j).pool)) v
    → IsVictim (references_of (whole ns)) (unfixed_pages (view_of (shard_at ns j).pool)) v
victim_whole ns j None are lt none = none
victim_whole ns j (Some v) are lt victim =
    let pool = view_of (shard_at ns j).pool in
    let own : (q : PageId) → Contains (unfixed_pages pool) q → shard_of (length ns) q ≡ j = each_unfixed (λ q. shard_of (length ns) q ≡ j) pool (are.each j lt).own.resident in
    (victim.0, λ q has other. sym (evicted_alike ns j v q are lt (own v victim.0) (own q has)) ∙ victim.1 q has other)
