use Rattle.std.proofs.Common.{inl}
use Rattle.warm_pool.specs.State.{IsPool}
use Rattle.warm_pool.proofs.FrameChoiceLemmas.{pool_seen, seen_has}
use Rattle.warm_pool.proofs.PlacedLemmas.{placed_fixed}
use Rattle.warm_pool.proofs.UnchangedLemmas.{stays_in_frame}
use Rattle.warm_pool.proofs.pool.Pool.pin_again.Goals as goal

pub returns : goal.returns
returns g c =
    let pool : IsPool c.args.self.now = pool_seen c.self.view_is c.self.invariant in record {
      ranked = c.add_fix.ensures.ranked;
      pinned = λ h. (
        seen_has pool c.args._page (pool.has_device _ _ c.requires.can.holds) (pool.has_page _ _ c.requires.can.holds),
        inl (c.in-Ok.ensures.fixed c.args._page c.requires.can.holds),
      );
      evicted = placed_fixed _ _ c.args._page c.in-Ok.placed (c.in-Ok.ensures.fixed c.args._page c.requires.can.holds) c.in-Ok.ensures.evicted;
      holds = c.in-Ok.ensures.holds;
      frame = stays_in_frame _ _ c.args.slot.index c.args._page _ c.requires.can.holds c.in-Ok.ensures.others c.add_fix.ensures.kept;
    }
