use Rattle.std.proofs.Common.{◌≤◌, length, map}
use Rattle.warmplay.proofs.DeviceCountLemmas.{EachFew}
use Rattle.warmplay.proofs.play_over.Given as goal

abbrev pub invariant-loop-place : goal.invariant-loop-place
invariant-loop-place g l = EachFew (map (λ list. list.items) l.devices.items)

abbrev pub invariant-loop-spec : goal.invariant-loop-spec
invariant-loop-spec g l = length l.list.items ≤ l.spec-index
