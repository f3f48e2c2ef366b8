-- A new pool.
use Rattle.std.proofs.Common.{◌≡◌, ℕ, zero, suc, ◌<◌, ◌≤◌, false, List, [], length, replicate, Some, None, refl, sym, ◌∙◌, ap, subst}
use Rattle.std.proofs.Math.Path.{ap₂}
use Rattle.std.specs.Option.{option_map}
use Rattle.std.proofs.lemmas.List.{length-replicate, get_or-replicate}
use Rattle.warm_stamps.specs.declared.PageId.{PageId}
use Rattle.warm_history.specs.Histories.{HistoryView, hist, references_of}
use Rattle.warm_rank.specs.Keys.{rank_key}
use Rattle.warm_devices.specs.Device.{DeviceState}
use Rattle.warm_rank.specs.declared.TheConstants.{MAX_FRAMES}
use Rattle.warm_frame_table.specs.Frames.{FrameState, FramesState, nth_frame, fresh_frame}
use Rattle.warm_pool.specs.State.{IsPool, RankedBy, fresh_pool}
use Rattle.warm_pool.specs.Opening.{IsUpTo, IsSize}
use Rattle.warm_pool.proofs.PoolLemmas.{pool_from}

record IsUnused (f : FrameState) : Type 0 where
  pub page : f.page ≡ None
  pub key : f.key ≡ None
  pub fixes : f.fixes ≡ 0
  pub dirty : f.dirty ≡ false

fresh_unused : (bytes : List ℕ) → IsUnused (fresh_frame bytes)
fresh_unused bytes = record { page = refl; key = refl; fixes = refl; dirty = refl }

nth_unused : (n : ℕ) (bytes : List ℕ) (i : ℕ)
    → IsUnused (nth_frame (replicate n (fresh_frame bytes)) i)
nth_unused zero bytes i = fresh_unused _
nth_unused (suc n) bytes zero = fresh_unused bytes
nth_unused (suc n) bytes (suc i) = nth_unused n bytes i

no_page : (n : ℕ) (bytes : List ℕ) (i : ℕ) (p : PageId)
    → (nth_frame (replicate n (fresh_frame bytes)) i).page ≡ Some p → ⊥
no_page n bytes i p e = let none : None ≡ Some p = sym (nth_unused n bytes i).page ∙ e in absurd (cc)

opened_is_pool : (n size : ℕ) (ds : List DeviceState) → IsUpTo MAX_FRAMES n → IsSize size ds
    → length ds ≤ 65536 → IsPool (fresh_pool n size ds)
opened_is_pool n size ds up sized few = record {
  some_frames = subst (λ k. 0 < k) (sym (length-replicate n (fresh_frame (replicate size 0)))) up.0;
  few_frames = subst (λ k. k ≤ MAX_FRAMES) (sym (length-replicate n (fresh_frame (replicate size 0)))) up.1;
  some_bytes = sized.range.0;
  few_bytes = sized.range.1;
  few_devices = few;
  spare_size = refl;
  frame_size = λ i h. ap (λ f. length f.bytes) (get_or-replicate n i (fresh_frame (replicate size 0)) (fresh_frame []) (subst (λ k. i < k) (length-replicate n (fresh_frame (replicate size 0))) h))
      ∙ length-replicate size 0;
  device_size = sized.each;
  has_device = λ i p e. absurd (no_page n (replicate size 0) i p e);
  has_page = λ i p e. absurd (no_page n (replicate size 0) i p e);
  once = λ i j p e o. absurd (no_page n (replicate size 0) i p e);
  clean = λ i p e z o. absurd (no_page n (replicate size 0) i p e);
  bare = λ i e. let b = nth_unused n (replicate size 0) i in (b.key, b.fixes, b.dirty);
}

-- the parts of a new pool
module _ (frames : FramesState) (spare n size : ℕ) (ds : List DeviceState)
    (is : frames ≡ record {
      page_size = size;
      frames = replicate n (fresh_frame (replicate size 0));
    }) (room : spare ≡ size) where
  pub opened_state : pool_from frames spare ds ≡ fresh_pool n size ds
  opened_state = ap₂ (λ (f : FramesState) (k : ℕ). pool_from f k ds) is room

  pub opened_pool : IsUpTo MAX_FRAMES n → IsSize size ds → length ds ≤ 65536
      → IsPool (pool_from frames spare ds)
  opened_pool up sized few = subst IsPool (sym opened_state) (opened_is_pool n size ds up sized few)

  pub opened_ranked : (h : HistoryView) → RankedBy (pool_from frames spare ds) h
  opened_ranked h = subst (λ s. RankedBy s h) (sym opened_state)
      (λ i. let b = nth_unused n (replicate size 0) i in b.key ∙ ap (option_map (λ p. rank_key p (hist (references_of h) p))) (sym b.page))
