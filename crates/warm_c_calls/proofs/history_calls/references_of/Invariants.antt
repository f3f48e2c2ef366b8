use Rattle.std.proofs.Common.{◌≡◌, ◌≤◌, length, map, take, vec_capacity}
use Rattle.warm_c_base.specs.Values.{reference_of}
use Rattle.warm_c_calls.proofs.history_calls.references_of.Given as goal

-- the references so far, and capacity for all
abbrev pub invariant-loop-reference : goal.invariant-loop-reference
invariant-loop-reference l = record {
  made : l.references.items ≡ map reference_of (take l.reference-index l.batch);
  count : length l.references.items ≡ l.reference-index;
  room : length l.batch ≤ vec_capacity l.references;
}
