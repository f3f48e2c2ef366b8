-- What a history takes in with the pairs of another.
use Rattle.std.proofs.Common.{◌≡◌, ◌≢◌, ℕ, ◌+◌, [], ◌∷◌, ◌++◌, sym, ap, refl, ◌∙◌, subst, append_assoc, Some, None}
use Rattle.std.specs.BTreeMap.{insert_entry}
use Rattle.std.specs.BTreeMap.Range.{entries_between}
use Rattle.std.specs.declared.ops.Bound.TheVariants.{Included, Excluded}
use Rattle.std.specs.Ordering.{nat_cmp}
use Rattle.std.proofs.lemmas.List.{append-nil}
use Rattle.warm_maps.specs.declared.hist.PageHist.{PageHist}
use Rattle.warm_maps.specs.declared.hist.Entry.{Entry}
use Rattle.warm_maps.specs.BucketMaps.{KeysAscend, found}
use Rattle.warm_history.specs.Carried.{bucket_entries, is_next_in_bucket}
use Rattle.warm_history.specs.Changes.{MarksChanged}
use Rattle.warm_maps.specs.Cuts.{cut_at}
use Rattle.warm_history.specs.KeptEntries.{kept_entries}
use Rattle.warm_history.specs.ListHistories.{latest_of, hist_stamps, known_stamps, references_of_entry, list_references_of, list_history}
use Rattle.warm_maps.specs.MapKeys.{first_key, page_of_key}
use Rattle.warm_maps.specs.MapPairs.{MapPairs, AreKept, as_entries}
use Rattle.warm_history.specs.maps.KeptPairs.{TakesPairs, kept}
use Rattle.warm_maps.specs.NearJoins.{TellsBuckets}
use Rattle.warm_history.specs.ReferenceSets.{references_from}
use Rattle.warm_maps.specs.Runs.{at_key, with_pairs}
use Rattle.warm_maps.specs.Walks.{joined_pairs, merged}
use Rattle.warm_maps.proofs.BucketParts.{from_first_on}
use Rattle.warm_history.proofs.ChangeLemmas.{changes_at}
use Rattle.warm_history.proofs.maps.KeptCuts.{cut_kept}
use Rattle.warm_maps.proofs.CutLemmas.{kept_left}
use Rattle.warm_history.proofs.KeptLemmas.{history-kept}
use Rattle.warm_history.proofs.ListHistoryLemmas.{hist_swap}
use Rattle.warm_history.proofs.ListJoinLemmas.{history_alike, history_first, history_second, history_of_own_references}
use Rattle.warm_maps.proofs.MapKeyOrder.{in_bucket, of_bucket}
use Rattle.warm_maps.proofs.MapPairLemmas.{AreKeys, between, kept_more}
use Rattle.warm_history.proofs.maps.KeptPairLemmas.{IsHistory-kept, chosen_kept, exact_pair, told_by_pairs}
use Rattle.warm_history.proofs.maps.MergeIterLemmas.{bucket_from_start}
use Rattle.warm_history.proofs.maps.RunTakes.{bucket_is, found_under, some_joined}

-- pairs with others merged hold what both say
exact_merged : (old more : MapPairs) → AreKept old → AreKeys more → KeysAscend more
    → AreKept (merged old more)
    × (kept (merged old more)
    ≡ list_history (list_references_of (kept old) ++ list_references_of (as_entries more)))
exact_merged old [] are keys rise = (are, sym (history_of_own_references (kept old) (IsHistory-kept old are)) ∙ ap list_history (sym (append-nil (list_references_of (kept old)))))
exact_merged old (e ∷ more) are keys rise =
    let mid : MapPairs = merged old more in
    let rest = exact_merged old more are keys.1 rise.1 in
    let value = some_joined e.1 (known_stamps (found e.0 old)) in
    let k : PageHist = value.0 in
    let new : MapPairs = insert_entry nat_cmp mid e.0 k in
    let same : found e.0 mid ≡ found e.0 old = found_under e.0 old more rise.0 in
    let both : Some k ≡ latest_of (hist_stamps e.1 ++ known_stamps (found e.0 mid)) = value.1 ∙ ap (λ o. latest_of (hist_stamps e.1 ++ known_stamps o)) (sym same) in
    let whole : AreKept new = kept_more mid new e.0 k (hist_stamps e.1 ++ known_stamps (found e.0 mid)) keys.0 rest.0 both refl in
    let first : Entry = record { page = page_of_key e.0; hist = e.1 } in
    let S = list_references_of (kept old) in
    let A = references_of_entry first in
    let B = list_references_of (as_entries more) in
    let exact : kept new ≡ list_history (S ++ (A ++ B)) =
    exact_pair mid new e.0 e.1 k (found e.0 mid) keys.0 rest.0 refl both refl
    ∙ ap (λ t. list_history (list_references_of t ++ A)) rest.1
    ∙ history_first (S ++ B) A
    ∙ ap list_history (append_assoc S B A)
    ∙ history_alike S S (B ++ A) (A ++ B) (λ p. refl) (λ p. hist_swap B A p) in
    subst (λ o. AreKept (with_pairs old (at_key e.0 o ++ joined_pairs old more)) × (kept (with_pairs old (at_key e.0 o ++ joined_pairs old more)) ≡ list_history (S ++ (A ++ B)))) value.1 (whole, exact)

-- with those that are not older than a horizon
pub takes_all : (h : ℕ) (old more new : MapPairs) → AreKept old → AreKept more
    → new ≡ merged old (cut_at h more) → AreKept new × TakesPairs h old more new
takes_all h old more new are also is =
    let C : MapPairs = cut_at h more in
    let whole = kept_left h more also in
    let S = list_references_of (kept old) in
    let T = list_references_of (kept more) in
    let left : kept C ≡ list_history (references_from h T) =
    cut_kept h more also
    ∙ ap (kept_entries h) (sym (history_of_own_references (kept more) (IsHistory-kept more also)))
    ∙ history-kept h T in
    let all = exact_merged old C are whole.are_keys whole.keys_ascend in (
      subst AreKept (sym is) all.0,
      ap kept is
          ∙ all.1
          ∙ told_by_pairs S C whole
          ∙ ap (λ t. list_history (S ++ list_references_of t)) left
          ∙ history_second S (references_from h T),
    )

-- ---- which buckets change

entries_in : (b : ℕ) (pairs : MapPairs) → AreKept pairs
    → as_entries (entries_between nat_cmp (Included (first_key b)) (Excluded (first_key (b + 1)))
    pairs) ≡ bucket_entries b (kept pairs)
entries_in b pairs are =
    between (Included (first_key b)) (Excluded (first_key (b + 1))) (is_next_in_bucket b None) pairs (in_bucket b) are.are_keys
    ∙ chosen_kept b (is_next_in_bucket b None) (of_bucket b None) pairs are
    ∙ bucket_from_start b (kept pairs)

pub marks_all : (old new : MapPairs) (set : ℕ) → AreKept old → AreKept new
    → TellsBuckets set old new → MarksChanged (kept old) (kept new) set
marks_all old new set are whole tells bucket low = (
  (λ one.
      let differs = (tells bucket low).0 one in
      let key : ℕ = differs.0 in
      subst (λ b. bucket_entries b (kept new) ≢ bucket_entries b (kept old)) (bucket_is bucket key differs.2 differs.1) (changes_at old new key differs.2 are whole differs.3)),
  λ none.
      sym (entries_in bucket new whole)
      ∙ ap as_entries ((tells bucket low).1 none _ (from_first_on bucket))
      ∙ entries_in bucket old are,
)
