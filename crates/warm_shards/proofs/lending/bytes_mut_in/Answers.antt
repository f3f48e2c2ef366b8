use Rattle.std.proofs.Common.{ap, refl, subst, sym, arith}
use Rattle.std.specs.Vec.{with_item}
use Rattle.warm_pool.specs.View.{Holds, view_of}
use Rattle.warm_pool.specs.PageBytes.{IsLent}
use Rattle.warm_gossip.specs.Lending.{relent_node}
use Rattle.warm_gossip.specs.State.{NodeState}
use Rattle.warm_shards.proofs.Calls.{read_at}
use Rattle.warm_shards.proofs.lending.bytes_mut_in.Goals as goal

pub bytes_mut-requires : goal.bytes_mut-requires
bytes_mut-requires g c =
    let ns = c.args.nodes.now.items in
    let is = read_at ns c.args.at.shard c.index_mut.result.now c.index_mut.result.now (omega (arith, c.args.nodes.now.ok.0, c.requires.there)) c.index_mut.ensures.value in
    record { holds = subst (λ (n : NodeState). Holds (view_of n.pool) c.args.at.slot) (sym is) c.requires.holds }

pub returns : goal.returns
returns g c =
    let ns = c.args.nodes.now.items in
    let is = read_at ns c.args.at.shard c.index_mut.result.now c.index_mut.result.now (omega (arith, c.args.nodes.now.ok.0, c.requires.there)) c.index_mut.ensures.value in (
      (refl, λ w. ap (λ (n : NodeState). with_item c.args.nodes.now c.args.at.shard (relent_node n c.args.at.slot.index w)) is),
      record { writes_back = tt; lent = subst (λ (n : NodeState). IsLent (view_of n.pool) c.args.at.slot c.bytes_mut.result.now) is c.bytes_mut.ensures.lent },
    )
