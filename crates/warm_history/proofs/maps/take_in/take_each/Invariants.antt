use Rattle.std.proofs.Common.{◌≡◌}
use Rattle.warm_history.specs.maps.KeptPairs.{kept, TakesEntries}
use Rattle.warm_maps.specs.MapPairs.{AreKept}
use Rattle.warm_history.specs.Changes.{MarksChanged}
use Rattle.warm_maps.specs.Undo.{undone}
use Rattle.warm_history.proofs.ChangeLemmas.{Grows}
use Rattle.warm_history.proofs.maps.take_in.take_each.Given as goal

abbrev pub invariant-loop-entry : goal.invariant-loop-entry
invariant-loop-entry g l = record {
  can : (goal.iterator-loop-entry g).can_next l.entry-iterator;
  ends : (goal.iterator-loop-entry g).is_finite l.entry-iterator;
  whole : AreKept l.maps;
  takes : TakesEntries l.horizon l.initial.maps l.yielded l.maps;
  undo : undone l.undo.items l.maps ≡ undone l.initial.undo.items l.initial.maps;
  grows : Grows (kept l.initial.maps) (kept l.maps);
  changed : MarksChanged (kept l.initial.maps) (kept l.maps) l.changed;
}
