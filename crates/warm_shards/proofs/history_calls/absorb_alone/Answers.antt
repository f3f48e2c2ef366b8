use Rattle.std.proofs.Common.{arith}
use Rattle.warm_history.specs.ReferenceSets.{set_of_list}
use Rattle.warm_shards.proofs.GivenLemmas.{gives_alone}
use Rattle.warm_visits.proofs.GivenLemmas.{absorbs}
use Rattle.warm_shards.proofs.history_calls.absorb_alone.Goals as goal

pub returns : goal.returns
returns g c =
    gives_alone (set_of_list c.args.batch.now) c.args.nodes.now.items c.args.shard c.index_mut.result.now c.absorb.new.self c.index_mut.result.now c.absorb.result c.requires.shards c.requires.there (omega arith) c.requires.own c.index_mut.ensures.value
    (absorbs c.args.batch.now c.index_mut.result.now c.absorb.new.self c.absorb.result c.absorb.ensures.step c.absorb.ensures.devices)
