use Rattle.warm_frame_table.specs.declared.selection.Devices.TheVariants.{All}
use Rattle.warm_pool.proofs.FrameChoiceLemmas.{of_ok, of_err}
use Rattle.warm_pool.proofs.SettleLemmas.{down_view, settled}
use Rattle.warm_pool.specs.declared.fault.PoolFault.TheVariants.{Fault}
use Rattle.warm_pool.proofs.FlushLemmas.{handed_on}
use Rattle.std.proofs.Common.{refl, rules}
use Rattle.warm_pool.proofs.pool.Pool.write_back_all.Goals as goal

pub returns-clause-done : goal.returns-clause-done
returns-clause-done g c =
    let down = of_ok c.settle.result c.in_ok-map_err.ensures.variant c.settle.ensures.down in record {
      same = down_view All _ _ _ down;
      settled = settled _ _ down (of_ok c.settle.result c.in_ok-map_err.ensures.variant c.settle.ensures.flushed);
      once = c.settle.ensures.once;
    }

pub returns-in_err-map_err-clause-refused : goal.returns-in_err-map_err-clause-refused
returns-in_err-map_err-clause-refused g c = handed_on c.from_residual.result Fault _ (search rules) (record {
  cause = (refl, of_err c.settle.result c.in_err-map_err.ensures.variant c.settle.ensures.stopped);
  once = c.settle.ensures.once;
})
