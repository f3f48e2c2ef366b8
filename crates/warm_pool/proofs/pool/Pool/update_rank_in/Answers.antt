use Rattle.std.proofs.Common.{sym, ap, ◌∙◌}
use Rattle.warm_frame_table.specs.Frames.{nth_frame}
use Rattle.warm_pool.proofs.FrameChoiceLemmas.{pool_seen}
use Rattle.warm_pool.proofs.RefreshingLemmas.{frame_renewed, frame_bare}
use Rattle.warm_pool.proofs.pool.Pool.update_rank_in.Goals as goal

pub returns-clause-keys : goal.returns-clause-keys
returns-clause-keys g c =
    frame_renewed _ _ _ (pool_seen c.self.view_is c.self.invariant) (ap (λ s. (nth_frame s.frames c.args.at).page) (sym c.self.view_is) ∙ sym c.page.ensures ∙ c.in-Some.is) c.update_rank.ensures.keys

pub returns-in_default-clause-keys : goal.returns-in_default-clause-keys
returns-in_default-clause-keys g c = rw (← c.self.view_is) (frame_bare c.args.at _ c.self.invariant (sym c.page.ensures ∙ c.in_default.is))
