use Rattle.std.proofs.Common.{◌≡◌, vec_len}
use Rattle.warm_maps.specs.Undo.{undone}
use Rattle.warm_history.proofs.maps.take_in.put_all_back.Given as goal

abbrev pub invariant-loop-note : goal.invariant-loop-note
invariant-loop-note l = undone l.undo.items l.maps ≡ undone l.initial.undo.items l.initial.maps

abbrev pub decreases-loop-note : goal.decreases-loop-note
decreases-loop-note l = vec_len l.undo
