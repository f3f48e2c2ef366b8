use Rattle.std.proofs.Common.{sym, subst}
use Rattle.std.specs.List.Sorted.{IsPermutation}
use Rattle.std.proofs.lemmas.List.Sorted.{IsPermutation-sym}
use Rattle.warm_maps.specs.MapPairs.{as_entries}
use Rattle.warm_history.specs.maps.KeptPairs.{kept}
use Rattle.warm_history.specs.Histories.{entries_of}
use Rattle.warm_history.proofs.maps.KeptPairLemmas.{permuted_kept}
use Rattle.warm_history.proofs.history.History.unordered.Goals as goal

pub returns : goal.returns
returns c =
    let pairs = c.self.inside.maps in
    subst (λ h. IsPermutation (entries_of h) c.each_entry.result) c.self.view_is
    (subst (IsPermutation (kept pairs)) (sym c.each_entry.ensures)
    (IsPermutation-sym (as_entries pairs) (kept pairs) (permuted_kept pairs c.self.invariant.0)))
