use Rattle.std.proofs.Common.{◌<◌, List, length, refl, ap, sym, subst, arith}
use Rattle.warm_pool.specs.PageBytes.{IsLent}
use Rattle.warm_pool.specs.View.{Holds, view_of}
use Rattle.warm_gossip.specs.State.{NodeState}
use Rattle.warm_shards.specs.Lending.{relent_shards}
use Rattle.warm_shards.specs.Shards.{shard_at}
use Rattle.warm_shards.proofs.PoolCalls.{relent_own}
use Rattle.warm_shards.proofs.shards.Shards.bytes_mut.Goals as goal

pub invariant_of-self-lent : goal.invariant_of-self-lent
invariant_of-self-lent g c = λ w.
    let lt = subst (λ (xs : List NodeState). c.args.at.shard < length xs) (sym c.self.view_is) c.requires.there in
    relent_own c.self.inside.nodes.items c.args.at.shard c.args.at.slot.index w c.self.invariant lt

pub bytes_mut_in-requires : goal.bytes_mut_in-requires
bytes_mut_in-requires g c =
    let lt = subst (λ (xs : List NodeState). c.args.at.shard < length xs) (sym c.self.view_is) c.requires.there in
    record {
      there = omega (arith, c.self.inside.nodes.ok.0, lt);
      holds = subst (λ (xs : List NodeState). Holds (view_of (shard_at xs c.args.at.shard).pool) c.args.at.slot) (sym c.self.view_is) c.requires.holds;
    }

pub returns : goal.returns
returns g c = (
  (refl, λ w. ap (λ (xs : List NodeState). relent_shards xs c.args.at.shard c.args.at.slot.index w) c.self.view_is),
  record {
    writes_back = tt;
    lent = subst (λ (xs : List NodeState). IsLent (view_of (shard_at xs c.args.at.shard).pool) c.args.at.slot c.bytes_mut_in.result.now) c.self.view_is c.bytes_mut_in.ensures.lent;
  },
)
