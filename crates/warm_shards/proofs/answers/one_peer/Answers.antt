use Rattle.std.proofs.Common.{◌≡◌, ℕ, take, sym, ap, ◌∙◌, arith, add-one}
use Rattle.warm_history.specs.Histories.{HistoryView, join}
use Rattle.warm_gossip.specs.State.{NodeState}
use Rattle.warm_peer.specs.State.{PeerState}
use Rattle.warm_shards.specs.Shards.{shard_at, whole}
use Rattle.warm_shards.proofs.AreShardsLemmas.{some_shards}
use Rattle.warm_shards.proofs.Calls.{read_at}
use Rattle.warm_shards.proofs.WholeLemmas.{none_joined, whole_more}
use Rattle.warm_shards.proofs.answers.one_peer.Goals as goal

pub loop-shard-init : goal.loop-shard-init
loop-shard-init g c =
    let ns = c.args.nodes.now.items in
    record {
      id = ap (λ (p : PeerState). p.id) c.new-one.ensures ∙ c.id.ensures ∙ ap (λ (n : NodeState). n.id) (read_at ns 0 c.index.result.now c.index.result.now (some_shards ns c.requires) c.index.ensures);
      so_far = ap (λ (p : PeerState). p.history) c.new-one.ensures ∙ none_joined;
      count = omega (arith, c.args.nodes.now.ok.0);
    }

pub loop-shard-preserved : goal.loop-shard-preserved
loop-shard-preserved g c =
    let ns = c.args.nodes.now.items in
    let k = c.loop-shard.shard in
    let at = read_at ns k c.index-in-loop-shard.result.now c.index-in-loop-shard.result.now (omega (arith, c.loop-shard.invariant.count)) c.index-in-loop-shard.ensures in
    let own : c.history.result.now ≡ (shard_at ns k).history = c.history.ensures ∙ ap (λ (n : NodeState). n.history) at in
    record {
      id = c.join.ensures.id ∙ c.loop-shard.invariant.id;
      so_far = c.in_ok-join.ensures.exact
          ∙ ap (λ (h : HistoryView). join h c.history.result.now) c.loop-shard.invariant.so_far
          ∙ ap (λ (h : HistoryView). join (whole (take k ns)) h) own
          ∙ sym (whole_more ns k (omega (arith, c.loop-shard.invariant.count)))
          ∙ ap (λ (x : ℕ). whole (take x ns)) (sym (add-one k));
      count = c.loop-shard.invariant.count;
    }
