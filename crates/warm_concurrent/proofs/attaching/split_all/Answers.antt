use Rattle.std.proofs.Common.{◌≡◌, ◌<◌, ◌∙◌, ◌∷◌, [], length, ap, sym, arith}
use Rattle.std.proofs.lemmas.List.{length-append}
use Rattle.warm_concurrent.specs.Attached.{IsPassOf, ShardPass, ShardTurn, known_of, no_pass, no_turn, shard_pass, shard_turn}
use Rattle.warm_concurrent.specs.Opening.{IsSplit, with_half}
use Rattle.warm_concurrent.proofs.AttachingLemmas.{halved_here, halved_of, split_of}
use Rattle.warm_shards.proofs.FirstLemmas.{next_first}
use Rattle.warm_shards.proofs.Places.{read_at}
use Rattle.warm_concurrent.proofs.ListLemmas.{push_each}
use Rattle.warm_concurrent.proofs.attaching.split_all.Goals as goal

pub pass-requires : goal.pass-requires
pass-requires g c =
    let i = c.loop-shard.invariant in
    let k = c.loop-shard.shard in
    let turns = c.args.turns.now.items in
    let now = c.loop-shard.passes.items in
    let n = c.index_mut.result.now in
    let t = c.index.result.now in
    let lt : k < length turns = omega (arith, i.count, c.loop-shard-test.true) in
    let at : n ≡ shard_pass now k = read_at now k n n no_pass (omega (arith, lt, i.of.count)) c.index_mut.ensures.value in
    let is : t ≡ shard_turn turns k = read_at turns k t t no_turn lt c.index.ensures in
    ap (λ (q : ShardPass). q.table) at ∙ (i.of.each k lt).table ∙ ap (λ (x : ShardTurn). x.table) (sym is)

pub loop-shard-preserved : goal.loop-shard-preserved
loop-shard-preserved g c =
    let i = c.loop-shard.invariant in
    let k = c.loop-shard.shard in
    let turns = c.args.turns.now.items in
    let start = c.args.passes.now.items in
    let now = c.loop-shard.passes.items in
    let n = c.index_mut.result.now in
    let t = c.index.result.now in
    let p = c.pass.new.pass in
    let lt : k < length turns = omega (arith, i.count, c.loop-shard-test.true) in
    let at : n ≡ shard_pass now k = read_at now k n n no_pass (omega (arith, lt, i.of.count)) c.index_mut.ensures.value in
    let here : n ≡ shard_pass start k = at ∙ i.halved.others k (omega arith) in
    let is : t ≡ shard_turn turns k = read_at turns k t t no_turn lt c.index.ensures in
    let new = split_of (shard_turn turns k) t n c.pass.result (shard_pass start k) (c.requires.each k lt) is here c.pass.ensures.table c.pass.ensures.given in
    record {
      count = i.count;
      of = halved_of turns now k p n t i.of lt at is c.pass.ensures.half c.pass.ensures.stays;
      halved = next_first (λ j old new. new ≡ with_half old) k start now p (omega (arith, lt, c.requires.count)) i.halved (halved_here turns now k p n t i.of lt at is c.pass.ensures.half c.pass.ensures.stays);
      number = ap length c.push_reserved.ensures.items ∙ omega (arith, length-append c.loop-shard.all.items (c.pass.result ∷ []), i.number);
      capacity = omega (arith, c.push_reserved.ensures.capacity, i.capacity);
      each = λ j less. rw c.push_reserved.ensures.items
          (push_each (λ m q. IsPassOf (shard_turn turns m) q × IsSplit (known_of start m) q.view) c.loop-shard.all.items c.pass.result no_pass k i.number i.each new j less);
    }

pub returns-clause-halved : goal.returns-clause-halved
returns-clause-halved g c =
    let i = c.loop-shard.invariant in
    let all : c.loop-shard.shard ≡ c.len-count.result = omega (arith, c.loop-shard-test.false, c.loop-shard.auto.shard-end) in
    record {
      count = omega (arith, i.of.count, c.requires.count);
      each = λ j less. i.halved.first j (omega (arith, all, i.count, c.requires.count, less));
    }

pub returns-clause-given : goal.returns-clause-given
returns-clause-given g c =
    let i = c.loop-shard.invariant in
    let all : c.loop-shard.shard ≡ c.len-count.result = omega (arith, c.loop-shard-test.false, c.loop-shard.auto.shard-end) in
    record {
      count = omega (arith, i.number, all, i.count, c.requires.count);
      each = λ j less. (i.each j (omega (arith, all, i.count, c.requires.count, less))).1;
    }
