use Rattle.std.proofs.Common.{ℕ, List, sym, subst}
use Rattle.warm_pool.specs.PageBytes.{IsLent}
use Rattle.warm_pool.specs.State.{PoolState}
use Rattle.warm_pool.specs.View.{view_of}
use Rattle.warm_shard_machine.proofs.lending.look_pinned.Goals as goal

pub returns-clause-looked : goal.returns-clause-looked
returns-clause-looked g c =
    let slot = c.in_ok-slot.slot in
    let lent = subst (λ (s : PoolState). IsLent (view_of s) slot c.bytes-lent.result.now) c.pool.ensures c.bytes-lent.ensures in
    record {
      mid = c.pin.new.self;
      pins = (c.in_ok-slot.ensures.step, c.in_ok-slot.ensures.devices);
      lends = subst (λ (bytes : List ℕ). IsLent (view_of c.pin.new.self.pool) slot bytes) (sym c.tag_of-bytes.ensures) lent;
      unpins = (c.in-Ok.ensures.step, c.in-Ok.ensures.devices);
    }
