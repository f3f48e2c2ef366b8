use Rattle.std.proofs.Common.{◌≡◌, ◌++◌, drop}
use Rattle.warm_maps.specs.Runs.{AreNear, near_run}
use Rattle.warm_maps.proofs.runs.recent_pairs.Given as goal

abbrev pub invariant-loop-entry : goal.invariant-loop-entry
invariant-loop-entry l = record {
  near : AreNear (drop l.entry-index l.run);
  goes_on : l.pairs.items ++ near_run l.horizon (drop l.entry-index l.run) ≡ near_run l.horizon l.run;
}
