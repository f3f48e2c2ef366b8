use Rattle.std.proofs.Common.{◌≡◌, length}
use Rattle.warm_history.specs.Histories.{history_of_entries_at, references_of}
use Rattle.warm_visits.specs.ShardNumbers.{shard_of}
use Rattle.warm_shards.proofs.GivenLemmas.{gives_alone}
use Rattle.warm_visits.proofs.GivenLemmas.{joins}
use Rattle.warm_shards.proofs.Pages.{all_held}
use Rattle.warm_shards.proofs.joining.join_alone.Goals as goal

pub returns : goal.returns
returns g c =
    let es = c.args.entries.now in
    let own = all_held (λ p. shard_of (length c.args.nodes.now.items) p ≡ c.args.shard) es c.requires.own in
    gives_alone (references_of (history_of_entries_at c.args.horizon es)) c.args.nodes.now.items c.args.shard c.index_mut.result.now c.join_entries.new.self c.index_mut.result.now c.join_entries.result c.requires.shards c.requires.there c.requires.raised own c.index_mut.ensures.value
    (joins c.args.horizon es c.index_mut.result.now c.join_entries.new.self c.join_entries.result c.join_entries.ensures.joined c.join_entries.ensures.refused c.join_entries.ensures.devices)
