use Rattle.std.proofs.Common.{◌≡◌, ℕ, List, ◌++◌, length}
use Rattle.warm_dump.specs.Progress.{HasRead}
use Rattle.warm_dump.proofs.reading.DumpReader.take_all.Given as goal

abbrev pub invariant-loop-rest : goal.invariant-loop-rest
invariant-loop-rest l = record {
  some : (seen : List ℕ) × HasRead seen l.self;
  goes : (taken : List ℕ) × (l.bytes ≡ taken ++ l.rest) × ((seen : List ℕ) → HasRead seen l.fn.self → HasRead (seen ++ taken) l.self);
}

abbrev pub decreases-loop-rest : goal.decreases-loop-rest
decreases-loop-rest l = length l.rest
