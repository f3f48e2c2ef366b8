use Rattle.warm_pool.proofs.FrameChoiceLemmas.{of_ok, of_err}
use Rattle.warm_pool.proofs.PartialWriteBackLemmas.{first_view}
use Rattle.warm_pool.specs.declared.fault.PoolFault.TheVariants.{Fault}
use Rattle.warm_pool.proofs.FlushLemmas.{handed_on}
use Rattle.std.proofs.Common.{refl, rules}
use Rattle.warm_pool.proofs.pool.Pool.write_back_some.Goals as goal

pub returns-clause-done : goal.returns-clause-done
returns-clause-done g c =
    let down = of_ok c.clean_first.result c.in_ok-map_err.ensures.variant c.clean_first.ensures.down in record {
      same = first_view c.args.limit _ _ down;
      written = (down, c.dirty.ensures);
      unflushed = c.clean_first.ensures.unflushed;
    }

pub returns-in_err-map_err-clause-refused : goal.returns-in_err-map_err-clause-refused
returns-in_err-map_err-clause-refused g c = handed_on c.from_residual.result Fault _ (search rules) (record {
  cause = (refl, of_err c.clean_first.result c.in_err-map_err.ensures.variant c.clean_first.ensures.stopped);
  unflushed = c.clean_first.ensures.unflushed;
})
