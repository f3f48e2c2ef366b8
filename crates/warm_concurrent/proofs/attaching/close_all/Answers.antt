use Rattle.std.proofs.Common.{◌≡◌, ◌<◌, ◌∙◌, ◌∷◌, [], length, ap, arith}
use Rattle.std.proofs.lemmas.List.{length-append}
use Rattle.warm_concurrent.specs.Attached.{known_of, no_pass, no_turn, shard_pass, shard_turn}
use Rattle.warm_concurrent.specs.Opening.{ClosesShard}
use Rattle.warm_concurrent.proofs.AttachingLemmas.{closes}
use Rattle.warm_concurrent.proofs.ListLemmas.{after_remove, first_left, push_each}
use Rattle.warm_concurrent.proofs.attaching.close_all.Goals as goal

pub loop-shard-preserved : goal.loop-shard-preserved
loop-shard-preserved g c =
    let i = c.loop-shard.invariant in
    let k = c.loop-shard._shard in
    let turns = c.args.turns.items in
    let passes = c.args.passes.items in
    let t = c.remove-turn.result in
    let n = c.remove-pass.result in
    let r = c.close_one.result in
    let lt : k < length turns = omega (arith, i.count, c.loop-shard-test.true) in
    let is : t ≡ shard_turn turns k = first_left turns c.loop-shard.turns.items k t no_turn i.turns lt c.remove-turn.ensures.value in
    let same : n ≡ shard_pass passes k = first_left passes c.loop-shard.passes.items k n no_pass i.passes (omega (arith, lt, c.requires.passes.count)) c.remove-pass.ensures.value in
    record {
      count = i.count;
      turns = after_remove turns c.loop-shard.turns.items c.remove-turn.new.self.items k i.turns c.remove-turn.ensures.by_index.2;
      passes = after_remove passes c.loop-shard.passes.items c.remove-pass.new.self.items k i.passes c.remove-pass.ensures.by_index.2;
      number = ap length c.push_reserved.ensures.items ∙ omega (arith, length-append c.loop-shard.nodes.items (r ∷ []), i.number);
      capacity = omega (arith, c.push_reserved.ensures.capacity, i.capacity);
      each = λ j d less. rw c.push_reserved.ensures.items
          (push_each (λ m q. ClosesShard (shard_turn turns m) (known_of passes m) q) c.loop-shard.nodes.items r d k i.number (λ m l. i.each m d l) (closes (shard_turn turns k) t (shard_pass passes k) n r is same c.close_one.ensures) j less);
    }
