-- Shards that are opened.
use Rattle.std.proofs.Common.{◌≡◌, ℕ, zero, suc, List, [], ◌∷◌, map, length, get_or, Option, Some, None, refl, sym, ap, ◌∙◌}
use Rattle.warm_history.specs.Histories.{history, history_of_entries}
use Rattle.warm_stamps.specs.declared.PageId.{PageId}
use Rattle.warm_rank.specs.Laws.{pages_in}
use Rattle.warm_pool.specs.View.{FrameView, view_of}
use Rattle.warm_gossip.specs.State.{NodeState}
use Rattle.warm_gossip.proofs.VictimLemmas.{no_frame}
use Rattle.warm_shards.specs.Shards.{AreOpened, AreShards, IsOpened, IsShard, no_shard, shard_at, whole}
use Rattle.warm_shards.proofs.AreShardsLemmas.{all_shards, empty_shard}
use Rattle.warm_shards.proofs.EachShardLemmas.{none_held}
use Rattle.warm_visits.proofs.ErrandLemmas.{some_count}
use Rattle.warm_shards.proofs.WholeLemmas.{none_joined}

vacant_frames : (fs : List FrameView) → pages_in (map (λ f. f.page) fs) ≡ [] → (k : ℕ) (p : PageId)
    → (get_or fs k no_frame).page ≡ Some p → ⊥
vacant_frames [] none k p at = cc
vacant_frames (f ∷ fs) none k p at = cases f.page refl k at (λ e j. vacant_frames fs e j p)
  where
    cases : (page : Option PageId) → f.page ≡ page → (k : ℕ)
        → (get_or (f ∷ fs) k no_frame).page ≡ Some p
        → (pages_in (map (λ (x : FrameView). x.page) fs) ≡ [] → (j : ℕ) → (get_or fs j no_frame).page ≡ Some p → ⊥)
        → ⊥
    cases (Some q) is k at rest = let no : q ∷ pages_in (map (λ (x : FrameView). x.page) fs) ≡ [] = rw is at none in cc
    cases None is zero at rest = let no : None ≡ Some p = sym is ∙ at in cc
    cases None is (suc k) at rest = rest (rw is at none) k at

opened_history : (id : ℕ) (n : NodeState) → IsOpened id n → n.history ≡ history_of_entries []
opened_history id n opened = λ i. record { horizon = opened.horizon i; entries = opened.entries i }

opened_shard : (count id i : ℕ) (n : NodeState) → IsOpened id n → IsShard count id 0 i n
opened_shard count id i n opened =
    empty_shard count id i 0 n opened.id (opened_history id n opened) (vacant_frames (view_of n.pool).frames opened.vacant)

pub opened_shards : (id : ℕ) (ns : List NodeState) → AreOpened id ns → AreShards ns
opened_shards id ns opened =
    all_shards id 0 ns opened.count (some_count (length ns) opened.count) (λ i lt. opened_shard (length ns) id i (shard_at ns i) (opened.each i no_shard lt))

-- opened shards stand for no reference
pub opened_whole : (id : ℕ) (ns : List NodeState) → AreOpened id ns
    → whole ns ≡ history_of_entries []
opened_whole id ns opened = ap history (none_held ns (λ i lt. opened_history id (shard_at ns i) (opened.each i no_shard lt))) ∙ sym none_joined
