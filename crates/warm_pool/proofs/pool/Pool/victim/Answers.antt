use Rattle.std.proofs.Common.{sym, ap, ◌∙◌, subst}
use Rattle.warm_history.specs.Histories.{references_of}
use Rattle.warm_rank.specs.Ranking.{IsVictim}
use Rattle.warm_frame_table.specs.Frames.{nth_frame}
use Rattle.warm_pool.proofs.FrameChoiceLemmas.{none_leaves, one_leaves}
use Rattle.warm_pool.proofs.pool.Pool.victim.Goals as goal

pub returns-in_err-at-clause-victim : goal.returns-in_err-at-clause-victim
returns-in_err-at-clause-victim g c = rw (← c.self.view_is) (λ h r. subst (IsVictim (references_of h) _) (sym c.from_residual.ensures) (none_leaves c.self.invariant h r c.in_err-at.ensures.least))

pub returns-clause-victim : goal.returns-clause-victim
returns-clause-victim g c = rw (← c.self.view_is) (λ h r. subst (IsVictim (references_of h) _) (sym (c.page.ensures ∙ ap (λ all. (nth_frame all.frames c.in_ok-at.at).page) c.in_ok-at.ensures.same)) (one_leaves c.self.invariant h r c.in_ok-at.at c.in_ok-at.ensures.least))
