use Rattle.std.proofs.Common.{◌∙◌, ap, length, sym}
use Rattle.std.proofs.lemmas.List.{length-append}
use Rattle.warm_maps.specs.MapPairs.{as_entries}
use Rattle.warm_maps.specs.NearPairs.{full, widened}
use Rattle.warm_maps.proofs.EntriesOfBucket.{entries_of_bucket}
use Rattle.warm_maps.proofs.MapPairLemmas.{length_entries}
use Rattle.warm_maps.proofs.NearParts.{full_inside, length_full}
use Rattle.warm_maps.proofs.bucket_maps.BucketMaps.count_in.Goals as goal

pub returns : goal.returns
returns c =
    let b = c.args.number in
    let map = c.map_of.result.now in
    c.len.ensures
    ∙ sym (length_full b map)
    ∙ sym (length_entries (full b map))
    ∙ ap length (entries_of_bucket b (full b map) c.args.self.now (full_inside b map c.map_of.ensures.map) c.map_of.ensures.holds c.requires.kept.are_keys)
