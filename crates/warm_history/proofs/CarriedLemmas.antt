-- What is taken of a history for a bucket is the history of what is carried.
use Rattle.std.proofs.Common.{◌≡◌, ℕ, Bool, true, false, List, [], ◌∷◌, take, filter, sym, ap, refl, subst, ◌∙◌, Option}
use Rattle.std.specs.List.{list_any}
use Rattle.std.specs.Ordering.{is_eq}
use Rattle.warm_stamps.specs.declared.PageId.{PageId}
use Rattle.warm_stamps.specs.declared.Reference.{Reference}
use Rattle.warm_stamps.specs.Stamps.{page_cmp}
use Rattle.warm_history.specs.ReferenceSets.{ReferenceSet, is_kept, references_from, references, filter_references}
use Rattle.warm_history.specs.ListHistories.{list_history}
use Rattle.warm_maps.specs.declared.hist.Entry.{Entry}
use Rattle.warm_history.specs.Histories.{entries_of, history, history_of_entries, IsHistory}
use Rattle.warm_history.specs.Carried.{is_next_in_bucket, pages_carried, carried}
use Rattle.warm_history.proofs.HistoryLemmas.{entries-history, IsHistory-history, never_older}
use Rattle.warm_history.proofs.ListCarriedLemmas as of_list

kept-those : (test : Reference → Bool) (m : ℕ) (rs : List Reference)
    → references_from m (filter test rs) ≡ filter test (references_from m rs)
kept-those test m [] = refl
kept-those test m (r ∷ rs) = cases (test r) refl (is_kept m r.stamp) refl (kept-those test m rs)
  where
    cases : (b : Bool) → test r ≡ b → (c : Bool) → is_kept m r.stamp ≡ c
        → references_from m (filter test rs) ≡ filter test (references_from m rs)
        → references_from m (filter test (r ∷ rs)) ≡ filter test (references_from m (r ∷ rs))
    cases true t true k rest = rw (t, k) (rw t (ap (λ x. r ∷ x) rest))
    cases true t false k rest = rw (t, k) rest
    cases false t true k rest = rw (t, k) (rw t rest)
    cases false t false k rest = rw (t, k) rest

-- the references of a set that pass a test
pub references-those : (test : Reference → Bool) (S : ReferenceSet)
    → references (filter_references test S) ≡ filter test (references S)
references-those test S = kept-those test S.horizon S.given

-- the first entries of a history that are in the bucket and after the page are the entries of the
-- history of what is carried
pub history-carried : (S : ReferenceSet) (bucket : ℕ) (after : Option PageId) (limit : ℕ)
    → take limit (filter (λ e. is_next_in_bucket bucket after e.page) (entries_of (history S)))
    ≡ entries_of (history (carried S bucket after limit))
history-carried S bucket after limit =
    let test : Reference → Bool = λ r. list_any (λ p. is_eq (page_cmp p r.page)) (pages_carried S bucket after limit) in
    ap (λ es. take limit (filter (λ e. is_next_in_bucket bucket after e.page) es)) (entries-history S)
    ∙ of_list.history-carried (references S) bucket after limit
    ∙ ap list_history (sym (kept-those test S.horizon S.given))
    ∙ sym (entries-history (carried S bucket after limit))

-- the entries of a history are a history without its horizon too
pub history_alone : (es : List Entry) (S : ReferenceSet) → es ≡ entries_of (history S)
    → IsHistory (history_of_entries es)
history_alone es S is =
    let whole = IsHistory-history S in
    subst (λ fs. IsHistory (history_of_entries fs)) (sym is) (record { pages_ascend = whole.pages_ascend; stamps_descend = whole.stamps_descend; none_older = never_older (entries_of (history S)) })
