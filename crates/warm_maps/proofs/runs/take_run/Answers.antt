use Rattle.std.proofs.Common.{◌≡◌, sym, ap, subst, ◌∙◌, arith, ◌<◌}
use Rattle.warm_maps.specs.BucketMaps.{KeysAscend}
use Rattle.warm_maps.specs.MapKeys.{first_key}
use Rattle.warm_maps.specs.MapPairs.{MapPairs}
use Rattle.warm_maps.specs.NearPairs.{widened}
use Rattle.warm_maps.specs.Runs.{run_pairs}
use Rattle.warm_maps.specs.Walks.{merged, AreTwoLatest, TellsChange}
use Rattle.warm_maps.proofs.NearParts.{AllKeys}
use Rattle.warm_maps.proofs.NearRuns.{near_rise, near_small, run_near, same_run}
use Rattle.warm_maps.proofs.RunLemmas.{run_latest}
use Rattle.warm_maps.proofs.runs.take_run.Goals as goal

pub recent_pairs-requires : goal.recent_pairs-requires
recent_pairs-requires c = run_near c.args.bucket (first_key c.args.bucket) c.args.run.now (omega arith) c.requires.run

pub merge-requires-clause-run : goal.merge-requires-clause-run
merge-requires-clause-run c = subst KeysAscend (sym (c.deref.ensures.value ∙ c.in_ok-pairs.ensures)) (near_rise c.args.horizon c.args.bucket c.args.run.now c.requires.run)

pub merge-requires-clause-near : goal.merge-requires-clause-near
merge-requires-clause-near c = subst (AllKeys (λ k. k < 18446744073709551616)) (sym (c.deref.ensures.value ∙ c.in_ok-pairs.ensures)) (near_small c.args.horizon c.args.bucket (first_key c.args.bucket) c.args.run.now (omega arith) c.requires.run)

pub merge-requires-clause-latest : goal.merge-requires-clause-latest
merge-requires-clause-latest c = subst AreTwoLatest (sym (c.deref.ensures.value ∙ c.in_ok-pairs.ensures)) (run_latest c.args.horizon c.args.run.now)

pub returns-clause-ok : goal.returns-clause-ok
returns-clause-ok c =
    let pairs : widened c.get.result c.deref.result.now ≡ run_pairs c.args.horizon c.args.run.now = same_run c.args.horizon c.args.bucket c.get.result c.args.run.now c.deref.result.now c.requires.run c.get.ensures.value (c.deref.ensures.value ∙ c.in_ok-pairs.ensures) in
    c.in_ok-changes.ensures.ok ∙ ap (merged c.args.maps.now) pairs

pub returns-clause-tells : goal.returns-clause-tells
returns-clause-tells c =
    let pairs : widened c.get.result c.deref.result.now ≡ run_pairs c.args.horizon c.args.run.now = same_run c.args.horizon c.args.bucket c.get.result c.args.run.now c.deref.result.now c.requires.run c.get.ensures.value (c.deref.ensures.value ∙ c.in_ok-pairs.ensures) in
    subst (λ (run : MapPairs). TellsChange c.in_ok-changes.changes run c.args.maps.now c.merge.new.self) pairs c.in_ok-changes.ensures.tells
