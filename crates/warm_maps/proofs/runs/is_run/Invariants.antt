use Rattle.std.proofs.Common.{drop}
use Rattle.warm_maps.specs.MapKeys.{first_far_key}
use Rattle.warm_maps.specs.Runs.{IsRun, RiseWithin}
use Rattle.warm_maps.proofs.runs.is_run.Given as goal

-- all are a run if those that are left rise from the next key on
abbrev pub invariant-loop-entry : goal.invariant-loop-entry
invariant-loop-entry l = record {
  enough : RiseWithin l.from (first_far_key l.number) (drop l.entry-index l.entries) → IsRun l.number l.entries;
}
