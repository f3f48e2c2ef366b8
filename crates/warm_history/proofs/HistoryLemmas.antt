-- A history of kept references is known by its horizon, and by what it says of each page.
use Rattle.std.proofs.Common.{◌≡◌, ℕ, true, is_some, arith, List, [], ◌∷◌, ◌++◌, map, max, sym, ap, refl, ◌∙◌}
use Rattle.std.specs.List.{AllByRecursion}
use Rattle.std.proofs.Math.Nat.{le-max_left, le-max_right, le_refl}
use Rattle.warm_stamps.specs.declared.PageId.{PageId}
use Rattle.warm_stamps.proofs.DistinctLemmas.{Has}
use Rattle.warm_stamps.specs.declared.Reference.{Reference}
use Rattle.warm_maps.specs.declared.hist.PageHist.{PageHist}
use Rattle.warm_maps.specs.declared.hist.PageHist.TheVariants.{Once, Twice}
use Rattle.std.proofs.lemmas.Bool.Decides.{nat_tests}
use Rattle.warm_maps.specs.declared.hist.Entry.{Entry}
use Rattle.warm_history.specs.ReferenceSets.{ReferenceSet, references_from, references, ◌∪◌}
use Rattle.warm_history.specs.ListHistories.{list_history, list_references_of, list_hist}
use Rattle.warm_history.specs.Histories.{HistoryView, entries_of, hist, pages, history, references_of, IsHistory, IsKept}
use Rattle.warm_history.proofs.KeptLemmas.{kept_within, kept_both, kept_alike, kept_refs, hist-kept, none_older, all_entries}
use Rattle.warm_history.proofs.ListHistoryLemmas as of_list

-- a horizon, and the history of a list
abbrev pub view : ℕ → List Reference → HistoryView
view horizon rs = record { horizon = horizon; entries = list_history rs }

pub history-is : (S : ReferenceSet) → history S ≡ view S.horizon (references S)
unfolding history list_history
history-is S = refl

pub horizon-history : (S : ReferenceSet) → (history S).horizon ≡ S.horizon
unfolding history
horizon-history S = refl

pub entries-history : (S : ReferenceSet) → entries_of (history S) ≡ list_history (references S)
entries-history S = ap entries_of (history-is S)

-- what is cut already is not cut again
pub kept-references : (S : ReferenceSet) → references_from S.horizon (references S) ≡ references S
kept-references S = kept_within S.horizon S.horizon (le_refl S.horizon) S.given

-- both lists may be cut first
pub references-both : (S T : ReferenceSet)
    → references (S ∪ T) ≡ references_from (max S.horizon T.horizon) (references S ++ references T)
references-both S T = sym (kept_both S.horizon T.horizon (max S.horizon T.horizon) (le-max_left S.horizon T.horizon) (le-max_right S.horizon T.horizon) S.given T.given)

-- the references of a history say of each page what those say for which it stands
pub hist_refs-history : (S : ReferenceSet) (p : PageId)
    → hist (references_of (history S)) p ≡ hist S p
hist_refs-history S p =
    ap (λ h. hist (references_of h) p) (history-is S)
    ∙ kept_alike S.horizon (list_references_of (list_history (references S))) (references S) (of_list.hist_refs-history (references S)) p
    ∙ ap (λ rs. list_hist rs p) (kept-references S)

-- what is true of every history is true of the history of any kept references
pub IsHistory-history : (S : ReferenceSet) → IsHistory (history S)
unfolding history list_history
IsHistory-history S =
    let whole = of_list.IsHistory-history (references S) in
    record {
      pages_ascend = whole.pages_ascend;
      stamps_descend = whole.stamps_descend;
      none_older = all_entries (IsKept S.horizon) (hist S) (λ p h is.
          none_older S.horizon h (list_hist S.given p) (sym (hist-kept S.horizon S.given p) ∙ is)) (pages S);
    }

-- the references that a history holds aren't cut
pub references-refs : (h : HistoryView) → IsHistory h
    → references (references_of h) ≡ list_references_of (entries_of h)
references-refs h whole = kept_refs h.horizon h.entries whole.none_older

-- sets that agree on each page name the same pages
pub pages_alike : (S T : ReferenceSet) → ((p : PageId) → hist S p ≡ hist T p) → pages S ≡ pages T
pages_alike S T alike = of_list.pages_alike (references S) (references T) alike

-- of a page that it names a set says something
pub some_named : (S : ReferenceSet) (p : PageId) → Has (map (λ r. r.page) (references S)) p
    → is_some (hist S p) ≡ true
some_named S p has = of_list.some_named (references S) p has

-- sets of one horizon that agree on each page have one history
pub same_hists : (S T : ReferenceSet) → S.horizon ≡ T.horizon → ((p : PageId) → hist S p ≡ hist T p)
    → history S ≡ history T
same_hists S T horizons alike =
    let entries : list_history (references S) ≡ list_history (references T) = of_list.same_hists (references S) (references T) alike in
    let same : view S.horizon (references S) ≡ view T.horizon (references T) = λ i. record { horizon = horizons i; entries = entries i } in
    history-is S ∙ same ∙ sym (history-is T)

-- what two sets say of a page together follows from what each says, and their horizons
pub both_alike : (S S' T T' : ReferenceSet) → S.horizon ≡ S'.horizon → T.horizon ≡ T'.horizon
    → ((p : PageId) → hist S p ≡ hist S' p) → ((p : PageId) → hist T p ≡ hist T' p) → (p : PageId)
    → hist (S ∪ T) p ≡ hist (S' ∪ T') p
both_alike S S' T T' horizon horizon' first second p =
    let m = max S.horizon T.horizon in
    let alike : (p : PageId) → list_hist (references S ++ references T) p ≡ list_hist (references S' ++ references T') p = λ p.
    of_list.hist-append (references S) (references T) p
    ∙ ap (λ x. of_list.joined x (hist T p)) (first p)
    ∙ ap (of_list.joined (hist S' p)) (second p)
    ∙ sym (of_list.hist-append (references S') (references T') p) in
    ap (λ rs. list_hist rs p) (references-both S T)
    ∙ kept_alike m (references S ++ references T) (references S' ++ references T') alike p
    ∙ ap (λ k. list_hist (references_from (max k T.horizon) (references S' ++ references T')) p) horizon
    ∙ ap (λ k. list_hist (references_from (max S'.horizon k) (references S' ++ references T')) p) horizon'
    ∙ ap (λ rs. list_hist rs p) (sym (references-both S' T'))

-- no stamp is older than time 0
never : (h : PageHist) → IsKept 0 h
never (Once s) = (grind (arith, nat_tests), tt)
never (Twice t) = (grind (arith, nat_tests), (grind (arith, nat_tests), tt))

pub never_older : (es : List Entry) → AllByRecursion (λ e. IsKept 0 e.hist) es
never_older [] = tt
never_older (e ∷ es) = (never e.hist, never_older es)
