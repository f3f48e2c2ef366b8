use Rattle.std.proofs.Common.{◌≡◌, ◌<◌, ℕ, [], length, take, sym, ap, ◌∙◌, arith, add-one}
use Rattle.std.proofs.lemmas.List.{take_all}
use Rattle.warm_history.specs.Histories.{HistoryView}
use Rattle.warm_history.proofs.HistoryLemmas.{horizon-history}
use Rattle.warm_gossip.specs.State.{NodeState}
use Rattle.warm_shards.specs.Shards.{held, shard_at, whole}
use Rattle.warm_shards.proofs.Calls.{read_at}
use Rattle.warm_shards.proofs.ShardsOfNodesLemmas.{latest_more}
use Rattle.warm_shards.proofs.shards_of_nodes.latest_horizon.Goals as goal

pub loop-shard-init : goal.loop-shard-init
loop-shard-init g c = record {
  so_far = sym (horizon-history (held []));
  count = omega (arith, c.args.nodes.now.ok.0);
}

pub loop-shard-preserved : goal.loop-shard-preserved
loop-shard-preserved g c =
    let ns = c.args.nodes.now.items in
    let k = c.loop-shard.shard in
    let lt : k < length ns = omega (arith, c.loop-shard.invariant.count) in
    let at = read_at ns k c.index.result.now c.index.result.now lt c.index.ensures in
    let own : c.horizon.result ≡ (shard_at ns k).history.horizon = c.horizon.ensures.value ∙ ap (λ (h : HistoryView). h.horizon) c.history.ensures ∙ ap (λ (n : NodeState). n.history.horizon) at in
    record {
      so_far = c.max-latest.ensures
          ∙ latest_more ns k c.horizon.result c.loop-shard.latest lt own c.loop-shard.invariant.so_far
          ∙ ap (λ (x : ℕ). (whole (take x ns)).horizon) (sym (add-one k));
      count = c.loop-shard.invariant.count;
    }

pub returns : goal.returns
returns g c =
    let ns = c.args.nodes.now.items in
    c.loop-shard.invariant.so_far ∙ ap (λ xs. (whole xs).horizon) (take_all c.loop-shard.shard ns (omega (arith, c.loop-shard.invariant.count)))
