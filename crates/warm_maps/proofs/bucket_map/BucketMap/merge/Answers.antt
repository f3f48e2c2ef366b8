use Rattle.std.proofs.Common.{◌<◌}
use Rattle.warm_maps.specs.MapKeys.{full_key}
use Rattle.warm_maps.specs.NearPairs.{widened}
use Rattle.warm_maps.proofs.BucketSteps.{rise_first}
use Rattle.warm_maps.proofs.NearKeys.{full_keeps}
use Rattle.warm_maps.proofs.NearMerges.{all_merged, kept_full, merged_full, tells_full}
use Rattle.warm_maps.proofs.WithKeys.{rises_back}
use Rattle.warm_maps.proofs.bucket_map.BucketMap.merge.Goals as goal

pub merge_run-requires-clause-rise : goal.merge_run-requires-clause-rise
merge_run-requires-clause-rise c =
    let b = c.args.number in
    let m = c.args.self.now in
    rises_back (full_key b) (full_keeps b) m.near.entries (rise_first (widened b m.near.entries) m.far.entries c.requires.rise)

pub returns-clause-ok : goal.returns-clause-ok
returns-clause-ok c =
    let m = c.args.self.now in
    merged_full c.args.number m.far.entries c.requires.map.far c.merge_run.result m.near.entries c.args.run.now c.merge_run.new.map.entries c.requires.near c.merge_run.ensures.ok

pub returns-clause-tells : goal.returns-clause-tells
returns-clause-tells c =
    let m = c.args.self.now in
    tells_full c.args.number m.far.entries c.requires.map.far c.merge_run.result m.near.entries c.args.run.now c.merge_run.new.map.entries c.requires.near c.merge_run.ensures.tells

pub returns-clause-err : goal.returns-clause-err
returns-clause-err c =
    let m = c.args.self.now in
    kept_full c.args.number m.far.entries c.requires.map.far c.merge_run.result m.near.entries c.merge_run.new.map.entries c.merge_run.ensures.err

pub returns-clause-map : goal.returns-clause-map
returns-clause-map c =
    let m = c.args.self.now in
    record {
      near = all_merged c.merge_run.result (λ k. k < 18446744073709551616) m.near.entries c.args.run.now c.merge_run.new.map.entries c.requires.map.near c.requires.near c.merge_run.ensures.ok c.merge_run.ensures.err;
      far = c.requires.map.far;
      near_few = c.merge_run.ensures.small c.requires.map.near_few;
      far_few = c.requires.map.far_few;
    }
