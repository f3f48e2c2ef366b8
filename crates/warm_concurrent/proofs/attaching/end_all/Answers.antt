use Rattle.std.proofs.Common.{◌≡◌, ◌<◌, ◌∙◌, length, ap, sym, arith}
use Rattle.warm_turn.specs.CallHistories.{Joined}
use Rattle.warm_shard_machine.specs.ShardSteps.{ShardStep}
use Rattle.warm_concurrent.specs.Attached.{ShardPass, ShardTurn, known_of, no_pass, no_turn, shard_pass, shard_turn}
use Rattle.warm_concurrent.proofs.AttachingLemmas.{joined_here, joined_of}
use Rattle.warm_shards.proofs.FirstLemmas.{next_first}
use Rattle.warm_shards.proofs.Places.{read_at}
use Rattle.warm_concurrent.proofs.ListLemmas.{after_remove, first_left}
use Rattle.warm_concurrent.proofs.attaching.end_all.Goals as goal

pub end-requires : goal.end-requires
end-requires g c =
    let i = c.loop-shard.invariant in
    let k = c.loop-shard.shard in
    let turns = c.args.turns.now.items in
    let others = c.args.others.items in
    let now = c.loop-shard.passes.items in
    let n = c.index_mut.result.now in
    let u = c.remove-other.result in
    let t = c.index.result.now in
    let lt : k < length turns = omega (arith, i.count, c.loop-shard-test.true) in
    let at : n ≡ shard_pass now k = read_at now k n n no_pass (omega (arith, lt, i.of.count)) c.index_mut.ensures.value in
    let is : t ≡ shard_turn turns k = read_at turns k t t no_turn lt c.index.ensures in
    let other : u ≡ shard_pass others k = first_left others c.loop-shard.others.items k u no_pass i.others (omega (arith, lt, c.requires.those.count)) c.remove-other.ensures.value in
    let turn = ap (λ (x : ShardTurn). x.table) (sym is) in (
      ap (λ (q : ShardPass). q.table) at ∙ (i.of.each k lt).table ∙ turn,
      ap (λ (q : ShardPass). q.table) other ∙ (c.requires.those.each k lt).table ∙ turn,
    )

pub loop-shard-preserved : goal.loop-shard-preserved
loop-shard-preserved g c =
    let i = c.loop-shard.invariant in
    let k = c.loop-shard.shard in
    let turns = c.args.turns.now.items in
    let others = c.args.others.items in
    let now = c.loop-shard.passes.items in
    let n = c.index_mut.result.now in
    let u = c.remove-other.result in
    let t = c.index.result.now in
    let p = c.end.new.pass in
    let lt : k < length turns = omega (arith, i.count, c.loop-shard-test.true) in
    let at : n ≡ shard_pass now k = read_at now k n n no_pass (omega (arith, lt, i.of.count)) c.index_mut.ensures.value in
    let is : t ≡ shard_turn turns k = read_at turns k t t no_turn lt c.index.ensures in
    let other : u ≡ shard_pass others k = first_left others c.loop-shard.others.items k u no_pass i.others (omega (arith, lt, c.requires.those.count)) c.remove-other.ensures.value in
    record {
      count = i.count;
      of = joined_of turns others now k p n u t i.of lt at other is c.end.ensures.table c.end.ensures.seen;
      others = after_remove others c.loop-shard.others.items c.remove-other.new.self.items k i.others c.remove-other.ensures.by_index.2;
      joined = next_first (λ j old new. Joined ShardStep old.view (known_of others j) new.view) k c.args.passes.now.items now p (omega (arith, lt, c.requires.these.count)) i.joined (joined_here turns others now k p n u t i.of lt at other is c.end.ensures.seen);
    }
