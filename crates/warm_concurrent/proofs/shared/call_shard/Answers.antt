use Rattle.std.proofs.Common.{◌≡◌, ◌<◌, length, arith}
use Rattle.warm_concurrent.specs.Attached.{no_pass, shard_pass}
use Rattle.warm_concurrent.proofs.PassLemmas.{may}
use Rattle.warm_shards.proofs.Places.{read_at}
use Rattle.warm_concurrent.proofs.shared.call_shard.Goals as goal

pub returns-clause-may : goal.returns-clause-may
returns-clause-may g c =
    let turns = c.args.turns.now.items in
    let old = c.args.passes.now.items in
    let i = c.args.shard in
    let n = c.index_mut.result.now in
    let lt : i < length old = omega (arith, c.requires.passes.count, c.requires.there) in
    let is : n ≡ shard_pass old i = read_at old i n n no_pass lt c.index_mut.ensures.value in
    may turns old i c.call.new.pass c.requires.passes c.requires.there n c.args.call c.in_ok-reply.reply c.requires.turns is c.in_ok-reply.ensures.called
