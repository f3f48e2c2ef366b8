use Rattle.std.proofs.Common.{ap, ◌∙◌}
use Rattle.warm_maps.specs.MapPairs.{as_entries}
use Rattle.warm_maps.specs.LaterPages.{after_page}
use Rattle.warm_maps.specs.NearPairs.{full}
use Rattle.warm_maps.proofs.EntriesOfBucket.{entries_of_bucket, after_in_bucket}
use Rattle.warm_maps.proofs.NearParts.{full_inside}
use Rattle.warm_maps.proofs.bucket_maps.BucketMaps.later_pairs.Goals as goal

-- no page is given: all of the bucket
pub returns-in-None : goal.returns-in-None
returns-in-None c =
    let b = c.args.number in
    let map = c.map_of-map.result.now in
    rw c.in-None.is (
    ap as_entries c.pairs.ensures
    ∙ entries_of_bucket b (full b map) c.args.self.now (full_inside b map c.map_of-map.ensures.map) c.map_of-map.ensures.holds c.requires.kept.are_keys)

-- those after the page
pub returns-in-Some : goal.returns-in-Some
returns-in-Some c =
    let b = c.args.number in
    let map = c.map_of-map.result.now in
    let last = c.in-Some.last in
    rw c.in-Some.is (
    c.pairs_after.ensures
    ∙ ap (after_page last) (entries_of_bucket b (full b map) c.args.self.now (full_inside b map c.map_of-map.ensures.map) c.map_of-map.ensures.holds c.requires.kept.are_keys)
    ∙ after_in_bucket b last (as_entries c.args.self.now))
