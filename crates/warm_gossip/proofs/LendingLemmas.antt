-- The bytes of a page of a node's pool are lent, and whatever is left in them is the page's
-- content.
use Rattle.std.proofs.Common.{◌≡◌, ◌≢◌, ℕ, ◌<◌, true, List, length, set, None, refl, ap, subst, ◌∙◌}
use Rattle.warm_history.specs.Histories.{HistoryView}
use Rattle.warm_frame_table.specs.Frames.{nth_frame}
use Rattle.warm_frame_table.specs.Lending.{refilled}
use Rattle.warm_pool.specs.declared.slot.Slot.{Slot}
use Rattle.warm_pool.specs.Laws.{IsWrittenWhole}
use Rattle.warm_pool.specs.Lending.{relent_pool}
use Rattle.warm_pool.specs.PageBytes.{MakesDirty}
use Rattle.warm_pool.specs.State.{PoolState, IsPool, RankedBy}
use Rattle.warm_pool.specs.View.{view_of, Holds}
use Rattle.warm_pool.proofs.LendingLemmas.{length-refilled, lent_page, lent_page_at, refilled_whole}
use Rattle.warm_gossip.specs.declared.call.Call.TheVariants.{Write}
use Rattle.warm_gossip.specs.declared.call.Reply.TheVariants.{Done}
use Rattle.warm_gossip.specs.declared.warm_step.WarmUp.{WarmUp}
use Rattle.warm_gossip.specs.Clauses.{Goes}
use Rattle.warm_gossip.specs.Lending.{relent_node}
use Rattle.warm_gossip.specs.State.{NodeState}
use Rattle.warm_gossip.specs.WarmingUp.{IsWarming}
use Rattle.warm_gossip.proofs.WarmingLemmas.{warms_on}

module _ (s : PoolState) (slot : Slot) (pool : IsPool s) (there : slot.index < length s.frames)
    (some : (nth_frame s.frames slot.index).page ≢ None) (w : List ℕ) where
  -- as many bytes as the page has, which is all that is left
  abbrev left : List ℕ
  left = refilled (nth_frame s.frames slot.index).bytes w

  all_left : refilled (nth_frame s.frames slot.index).bytes left ≡ left
  all_left = refilled_whole (nth_frame s.frames slot.index).bytes left (length-refilled (nth_frame s.frames slot.index).bytes w)

  written : IsWrittenWhole s slot left (relent_pool s slot.index left)
  written = lent_page_at s slot left pool there some (length-refilled (nth_frame s.frames slot.index).bytes w ∙ pool.frame_size slot.index there)

  -- the same pool, whether all or the first of these bytes are left
  same : relent_pool s slot.index left ≡ relent_pool s slot.index w
  same = ap (λ (bytes : List ℕ). record s { frames = set s.frames slot.index (record (nth_frame s.frames slot.index) { dirty = true; bytes = bytes }) }) all_left

  -- so what holds of a node's pool still does
  pub lent_keeps : (h : HistoryView) (x : WarmUp)
      → RankedBy s h × IsWarming h (view_of s) x
      → RankedBy (relent_pool s slot.index w) h
      × IsWarming h (view_of (relent_pool s slot.index w)) x
  lent_keeps h x (ranked, under) = subst (λ t. RankedBy t h × IsWarming h (view_of t) x) same (
    written.ranked h ranked,
    warms_on h (view_of s) (view_of (relent_pool s slot.index left)) x (ap (λ v. v.devices) written.written.becomes) (ap (λ v. v.frames) written.written.becomes) under,
  )

-- the law
pub lent_bytes : (s : NodeState) (slot : Slot) (w : List ℕ) → IsPool s.pool
    → Holds (view_of s.pool) slot → length w ≡ s.pool.page_size
    → Goes s (Write slot 0 w) Done (relent_node s slot.index w)
    × MakesDirty s.pool slot (relent_pool s.pool slot.index w)
lent_bytes s slot w pool holds size =
    let whole = lent_page s.pool slot w pool holds size in
    ((holds, (refl, whole.written)), whole.dirty)
