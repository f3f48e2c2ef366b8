use Rattle.std.proofs.Common.{length, ap, sym, refl, arith, rules}
use Rattle.std.proofs.lemmas.List.{length-map}
use Rattle.warm_frame_table.specs.declared.selection.Devices.TheVariants.{One}
use Rattle.warm_pool.proofs.FlushLemmas.{handed_on}
use Rattle.warm_pool.proofs.FrameChoiceLemmas.{of_ok, of_err}
use Rattle.warm_pool.proofs.SettleLemmas.{down_view}
use Rattle.warm_pool.proofs.PartialWriteBackLemmas.{settled_on}
use Rattle.warm_pool.specs.declared.fault.PoolFault.TheVariants.{Fault}
use Rattle.warm_pool.proofs.pool.Pool.flush_device.Goals as goal

pub returns-clause-done : goal.returns-clause-done
returns-clause-done g c =
    let down = of_ok c.settle_device.result c.in_ok-map_err.ensures.variant c.settle_device.ensures.down in record {
      same = down_view (One c.args.dev) _ _ _ down;
      settled = settled_on c.args.dev _ _ down (of_ok c.settle_device.result c.in_ok-map_err.ensures.variant c.settle_device.ensures.flushed);
      elsewhere = c.settle_device.ensures.elsewhere;
      others = c.settle_device.ensures.others;
      once = c.settle_device.ensures.once;
    }

pub returns-then-dev-len-clause-refused : goal.returns-then-dev-len-clause-refused
returns-then-dev-len-clause-refused g c = rw (← c.self.view_is) (record {
  cause = (simp length-map (omega arith), refl);
  elsewhere = λ i off. refl;
  others = λ k apart. refl;
  once = λ k. omega arith;
})

pub returns-in_err-map_err-clause-refused : goal.returns-in_err-map_err-clause-refused
returns-in_err-map_err-clause-refused g c = handed_on c.from_residual.result Fault _ (search rules) (
    let there = ap (λ s. length s.devices) (sym c.self.view_is) in record {
      cause = (
        rw there (rw length-map (omega arith)),
        of_err c.settle_device.result c.in_err-map_err.ensures.variant c.settle_device.ensures.stopped,
        of_err c.settle_device.result c.in_err-map_err.ensures.variant c.settle_device.ensures.left,
      );
      elsewhere = c.settle_device.ensures.elsewhere;
      others = c.settle_device.ensures.others;
      once = c.settle_device.ensures.once;
    })
