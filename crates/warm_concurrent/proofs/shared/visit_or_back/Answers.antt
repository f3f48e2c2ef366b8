use Rattle.std.proofs.Common.{◌≡◌, ◌<◌, length, arith}
use Rattle.warm_concurrent.specs.Attached.{no_pass, shard_pass}
use Rattle.warm_concurrent.proofs.PassLemmas.{answered, may}
use Rattle.warm_shards.proofs.Places.{read_at}
use Rattle.warm_concurrent.proofs.shared.visit_or_back.Goals as goal

pub returns-in-Ok-clause-visited : goal.returns-in-Ok-clause-visited
returns-in-Ok-clause-visited g c =
    let turns = c.args.turns.now.items in
    let old = c.args.passes.now.items in
    let i = c.args.shard in
    let n = c.index_mut.result.now in
    let p = c.visit.new.pass in
    let lt : i < length old = omega (arith, c.requires.passes.count, c.requires.there) in
    let is : n ≡ shard_pass old i = read_at old i n n no_pass lt c.index_mut.ensures.value in
    let made = c.in-Ok.ensures.visited in (
      made.0,
      made.1,
      made.2,
      answered turns old i p c.requires.passes c.requires.there n made.0 made.1 is made.3,
      may turns old i p c.requires.passes c.requires.there n made.0 made.1 c.requires.turns is made.3,
    )
