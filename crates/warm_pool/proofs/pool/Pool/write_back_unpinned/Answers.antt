use Rattle.std.proofs.Common.{rules, subst}
use Rattle.warm_frame_table.specs.declared.selection.Devices.TheVariants.{All}
use Rattle.warm_pool.specs.steps.Retiring.{AreUnfixed}
use Rattle.warm_pool.proofs.EmptyLemmas.{unfixed_frames}
use Rattle.warm_pool.proofs.FlushLemmas.{handed_on}
use Rattle.warm_pool.proofs.FrameChoiceLemmas.{of_err}
use Rattle.warm_pool.specs.declared.fault.PoolFault.TheVariants.{Fault}
use Rattle.warm_pool.proofs.pool.Pool.write_back_unpinned.Goals as goal

pub returns-in_err-map_err-clause-refused : goal.returns-in_err-map_err-clause-refused
returns-in_err-map_err-clause-refused g c = handed_on c.from_residual.result Fault _ (search rules) (
  unfixed_frames _ (subst (λ s. AreUnfixed All s.frames) c.self.view_is c.if-is_fixed.ensures),
  of_err c.settle.result c.in_err-map_err.ensures.variant c.settle.ensures.stopped,
)
