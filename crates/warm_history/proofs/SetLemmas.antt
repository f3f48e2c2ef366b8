-- The entries of a history depend on the set of the references alone.
use Rattle.std.proofs.Common.{◌≡◌, sym, ◌∙◌}
use Rattle.warm_stamps.specs.declared.PageId.{PageId}
use Rattle.warm_history.specs.ReferenceSets.{ReferenceSet, references}
use Rattle.warm_history.specs.Histories.{hist}
use Rattle.warm_history.specs.References.{SameReferences, HistoryOfSet}
use Rattle.warm_history.proofs.HistoryLemmas.{entries-history}
use Rattle.warm_history.proofs.ListSetLemmas as of_list

-- sets of the same references agree on each page
pub hist_of_set : (S T : ReferenceSet) → SameReferences S T → (p : PageId) → hist S p ≡ hist T p
hist_of_set S T same p = of_list.hist_of_set (references S) (references T) same.there same.back p

pub history_of_set : HistoryOfSet
history_of_set S T same = entries-history S ∙ of_list.history_of_set (references S) (references T) same.there same.back ∙ sym (entries-history T)
