-- What a history takes in with a run.
use Rattle.std.proofs.Common.{◌≡◌, ◌≢◌, inl, inr, ℕ, Bool, true, false, cond, List, [], ◌∷◌, ◌++◌, sym, ap, refl, ◌∙◌, subst, arith, append_assoc, Option, Some, None, filter, ◌+◌, ◌^◌, ◌≤◌}
use Rattle.std.specs.Int.{bit_at}
use Rattle.std.specs.Prelude.{bit_or}
use Rattle.std.specs.List.{AllByRecursion}
use Rattle.std.specs.BTreeMap.{insert_entry}
use Rattle.std.specs.Ordering.{flip_args, nat_cmp}
use Rattle.std.specs.declared.cmp.Ordering.TheVariants.{Less}
use Rattle.std.proofs.lemmas.Bool.{cases_eq}
use Rattle.std.proofs.lemmas.List.{append-nil}
use Rattle.warm_stamps.specs.Buckets.{page_bucket}
use Rattle.warm_stamps.specs.declared.Stamp.{Stamp}
use Rattle.warm_stamps.specs.Stamps.{stamp_cmp}
use Rattle.warm_stamps.proofs.DistinctLemmas.{by_cases}
use Rattle.warm_maps.specs.declared.hist.PageHist.{PageHist}
use Rattle.warm_maps.specs.declared.hist.PageHist.TheVariants.{Once, Twice}
use Rattle.warm_maps.specs.declared.hist.Entry.{Entry}
use Rattle.warm_history.specs.Carried.{bucket_entries}
use Rattle.warm_history.specs.Changes.{SameInBucket, MarksChanged}
use Rattle.warm_history.specs.ListHistories.{first_two, latest_of, hist_stamps, known_stamps, references_of_entry, list_references_of, list_history}
use Rattle.warm_history.specs.ReferenceSets.{is_kept, references_from}
use Rattle.warm_maps.specs.MapKeys.{first_key, first_far_key, key_of_page, page_of_key, IsMapKey}
use Rattle.warm_maps.specs.MapPairs.{MapPairs, AreKept}
use Rattle.warm_history.specs.maps.KeptPairs.{kept, references_at, TakesEntries, TakesRecent, TakesStamps}
use Rattle.warm_maps.specs.BucketMaps.{LiesIn, found}
use Rattle.warm_maps.specs.Runs.{RiseWithin, at_key, run_pairs, with_pairs}
use Rattle.warm_maps.specs.Walks.{joined_with, joined_pairs, merged, DiffersAt}
use Rattle.warm_history.proofs.ListHistoryLemmas.{hist_swap}
use Rattle.warm_history.proofs.ListJoinLemmas.{history_alike, history_first, history_of_own_references}
use Rattle.warm_maps.proofs.MapPairLemmas.{AreKeys, kept_more, no_later}
use Rattle.warm_history.proofs.maps.KeptPairLemmas.{IsHistory-kept, exact_pair}
use Rattle.warm_history.proofs.maps.RecentLemmas.{takes_none, takes_some, recent_more}
use Rattle.warm_history.proofs.ChangeLemmas.{others_stay, lies_in, own_bucket, changes_at, in_it, not_in_it}
use Rattle.warm_maps.proofs.RunPairs.{AreAbove, near_first, run_above}
use Rattle.warm_maps.proofs.MergedLemmas.{found_with}
use Rattle.warm_maps.proofs.MergedBuckets.{all_at, joined_all}
use Rattle.warm_maps.proofs.LatestLemmas.{latest_of_first}
use Rattle.warm_stamps.specs.Distinct.{insert_distinct, distinct}
use Rattle.std.specs.Option.{option_or}

-- ---- the stamps that a horizon leaves

two_left : (a b : Bool) (x y : Stamp)
    → known_stamps (first_two (cond a (x ∷ cond b (y ∷ []) []) (cond b (y ∷ []) [])))
    ≡ cond a (x ∷ cond b (y ∷ []) []) (cond b (y ∷ []) [])
two_left true true x y = refl
two_left true false x y = refl
two_left false true x y = refl
two_left false false x y = refl

one_left : (a : Bool) (x : Stamp)
    → known_stamps (first_two (cond a (x ∷ []) [])) ≡ cond a (x ∷ []) []
one_left true x = refl
one_left false x = refl

-- they are those of a page's history, if any is left
held_left : (m : ℕ) (h : PageHist)
    → known_stamps (first_two (filter (is_kept m) (hist_stamps h)))
    ≡ filter (is_kept m) (hist_stamps h)
held_left m (Once last) = one_left (is_kept m last) last
held_left m (Twice two) = two_left (is_kept m two.last) (is_kept m two.prev) two.last two.prev

some_latest : (h : PageHist) → (k : PageHist) × (Some k ≡ latest_of (hist_stamps h))
some_latest (Once last) = (Once last, refl)
some_latest (Twice two) = by_cases (stamp_cmp two.prev two.last) _
    (λ less. (Twice (record { last = two.last; prev = two.prev }), rw less refl))
    (λ tied. (Once two.prev, rw tied refl))
    (λ more. (Twice (record { last = two.prev; prev = two.last }), rw more refl))

-- beside others too
first_some : (s : Stamp) (ss : List Stamp) → (k : PageHist) × (Some k ≡ first_two (s ∷ ss))
first_some s [] = (Once s, refl)
first_some s (t ∷ ss) = (Twice (record { last = s; prev = t }), refl)

put_some : (s : Stamp) (ss : List Stamp)
    → (k : PageHist) × (Some k ≡ first_two (insert_distinct (flip_args stamp_cmp) s ss))
put_some s [] = (Once s, refl)
put_some s (t ∷ ss) = by_cases (stamp_cmp t s) _
    (λ less. let some = first_some s (t ∷ ss) in rw less some)
    (λ tied. let some = first_some t ss in rw tied some)
    (λ more. let some = first_some t (insert_distinct (flip_args stamp_cmp) s ss) in rw more some)

pub some_joined : (h : PageHist) (ss : List Stamp)
    → (k : PageHist) × (Some k ≡ latest_of (hist_stamps h ++ ss))
some_joined (Once last) ss = put_some last (distinct (flip_args stamp_cmp) ss)
some_joined (Twice two) ss = put_some two.last (distinct (flip_args stamp_cmp) (two.prev ∷ ss))

-- ---- one entry more

-- what is found at a key below those of a run is found still
pub found_under : (p : ℕ) (old run : MapPairs) → AreAbove p run
    → found p (merged old run) ≡ found p old
found_under p old run above =
    found_with p old (joined_pairs old run)
    ∙ ap (λ x. option_or x (found p old)) (no_later p (joined_pairs old run) (joined_all (λ k. nat_cmp p k ≡ Less) old run above))

takes_first : (m : ℕ) (old mid new : MapPairs) (e : Entry) (es : List Entry)
    → page_of_key (key_of_page e.page) ≡ e.page → TakesEntries m old es mid
    → TakesRecent m mid (key_of_page e.page) e.hist new → TakesEntries m old (e ∷ es) new
takes_first m old mid new e es back exact takes =
    let S = list_references_of (kept old) in
    let A = references_from m (references_of_entry e) in
    let B = references_from m (list_references_of es) in
    let own : references_from m (references_at (key_of_page e.page) e.hist) ≡ A = ap (λ p. references_from m (references_of_entry (record { page = p; hist = e.hist }))) back in
    takes
    ∙ ap (λ T. list_history (list_references_of (kept mid) ++ T)) own
    ∙ ap (λ h. list_history (list_references_of h ++ A)) exact
    ∙ history_first (S ++ B) A
    ∙ ap list_history (append_assoc S B A)
    ∙ history_alike S S (B ++ A) (A ++ B) (λ p. refl) (λ p. hist_swap B A p)
    ∙ ap (λ T. list_history (S ++ T)) (sym (recent_more m (references_of_entry e) (list_references_of es) (list_references_of (e ∷ es)) refl))

-- ---- a run

-- what is taken in of entries of one bucket
pub record TakesRun (m number : ℕ) (old : MapPairs) (es : List Entry)
    (new : MapPairs) : Type 0 where
  pub whole : AreKept new
  pub exact : TakesEntries m old es new
  pub others : (bucket : ℕ) → bucket ≢ number → SameInBucket bucket (kept old) (kept new)

pub bucket_is : (number p : ℕ) → IsMapKey p → LiesIn number p → page_bucket (page_of_key p) ≡ number
bucket_is number p is lies = own_bucket p is ∙ sym (lies_in number p lies.0 lies.1)

adds : (m number : ℕ) (old mid : MapPairs) (e : Entry) (es : List Entry) (more h k : PageHist)
    → page_of_key (key_of_page e.page) ≡ e.page → LiesIn number (key_of_page e.page)
    → hist_stamps more ≡ filter (is_kept m) (hist_stamps e.hist)
    → Some h ≡ latest_of (hist_stamps more)
    → Some k ≡ joined_with h (found (key_of_page e.page) mid) → TakesRun m number old es mid
    → TakesRun m number old (e ∷ es) (insert_entry nat_cmp mid (key_of_page e.page) k)
adds m number old mid e es more h k back lies stamps latest joins run =
    let p = key_of_page e.page in
    let known = found p mid in
    let new = insert_entry nat_cmp mid p k in
    let is : IsMapKey p = ap key_of_page back in
    let both : Some k ≡ latest_of (hist_stamps more ++ known_stamps known) =
    joins
    ∙ ap (λ o. latest_of (known_stamps o ++ known_stamps known)) latest
    ∙ sym (latest_of_first (hist_stamps more) (known_stamps known)) in
    let whole = kept_more mid new p k (hist_stamps more ++ known_stamps known) is run.whole both refl in
    let exact : TakesStamps mid p more new = exact_pair mid new p more k known is run.whole refl both refl in
    record {
      whole = whole;
      exact = takes_first m old mid new e es back run.exact (takes_some m mid new p e.hist more stamps exact);
      others = λ bucket other. others_stay (kept mid) (kept new) (record { page = page_of_key p; hist = more }) bucket (IsHistory-kept mid run.whole) (IsHistory-kept new whole).pages_ascend exact (λ same. other (sym same ∙ bucket_is number p is lies)) ∙ run.others bucket other;
    }

passes : (m number : ℕ) (old mid : MapPairs) (e : Entry) (es : List Entry)
    → page_of_key (key_of_page e.page) ≡ e.page → [] ≡ filter (is_kept m) (hist_stamps e.hist)
    → TakesRun m number old es mid → TakesRun m number old (e ∷ es) mid
passes m number old mid e es back none run = record {
  whole = run.whole;
  exact = takes_first m old mid mid e es back run.exact (takes_none m mid (key_of_page e.page) e.hist run.whole none);
  others = run.others;
}

pub takes_run : (m number from : ℕ) (old : MapPairs) (es : List Entry) → AreKept old
    → first_key number ≤ from → RiseWithin from (first_far_key number) es
    → TakesRun m number old es (merged old (run_pairs m es))
takes_run m number from old [] are begins rise = record {
  whole = are;
  exact = sym (history_of_own_references (kept old) (IsHistory-kept old are)) ∙ ap list_history (sym (append-nil (list_references_of (kept old))));
  others = λ bucket other. refl;
}
takes_run m number from old (e ∷ es) are begins rise =
    let p = key_of_page e.page in
    let starts : from ≤ key_of_page e.page = rise.0 in
    let later : first_key number ≤ key_of_page e.page + 1 = omega arith in
    let low : first_key number ≤ key_of_page e.page = omega arith in
    let lies = near_first number (key_of_page e.page) (low, rise.1) in
    let run = takes_run m number (p + 1) old es are later rise.3 in
    cases (first_two (filter (is_kept m) (hist_stamps e.hist))) (held_left m e.hist) lies (found_under p old (run_pairs m es) (run_above m p (first_far_key number) es rise.3)) run
  where
    mid : MapPairs
    mid = merged old (run_pairs m es)

    cases : (r : Option PageHist) → known_stamps r ≡ filter (is_kept m) (hist_stamps e.hist)
        → LiesIn number (key_of_page e.page)
        → found (key_of_page e.page) mid ≡ found (key_of_page e.page) old
        → TakesRun m number old es mid
        → TakesRun m number old (e ∷ es)
        (merged old (at_key (key_of_page e.page)
        (latest_of (filter (is_kept m) (hist_stamps e.hist))) ++ run_pairs m es))
    cases None stamps lies same run = subst (λ ss. TakesRun m number old (e ∷ es) (merged old (at_key (key_of_page e.page) (latest_of ss) ++ run_pairs m es))) stamps (passes m number old mid e es rise.2 stamps run)
    cases (Some more) stamps lies same run =
        let p = key_of_page e.page in
        let latest = some_latest more in
        let h : PageHist = latest.0 in
        let value = some_joined h (known_stamps (found p old)) in
        let joins : Some value.0 ≡ joined_with h (found p mid) = value.1 ∙ ap (joined_with h) (sym same) in
        subst (λ o. TakesRun m number old (e ∷ es) (merged old (at_key p o ++ run_pairs m es))) (latest.1 ∙ ap latest_of stamps)
        (subst (λ o. TakesRun m number old (e ∷ es) (with_pairs old (at_key p o ++ joined_pairs old (run_pairs m es)))) value.1
        (adds m number old mid e es more h value.0 rise.2 lies stamps latest.1 joins run))

-- a bucket changes if something else is found at a key of the run
changes_in : (number : ℕ) (old run new : MapPairs) → AreKept old → AreKept new
    → AllByRecursion (λ (e : ℕ × PageHist). LiesIn number e.0) run → AreKeys run
    → DiffersAt run old new → bucket_entries number (kept new) ≢ bucket_entries number (kept old)
changes_in number old run new are whole inside keys differs =
    let key : ℕ = differs.0 in
    let is : IsMapKey key = all_at IsMapKey run key keys differs.1 in
    let lies : LiesIn number key = all_at (LiesIn number) run key inside differs.1 in
    subst (λ b. bucket_entries b (kept new) ≢ bucket_entries b (kept old)) (bucket_is number key is lies) (changes_at old new key is are whole differs.2)

pub marks_run : (number : ℕ) (old run new : MapPairs) → AreKept old → AreKept new
    → AllByRecursion (λ (e : ℕ × PageHist). LiesIn number e.0) run → AreKeys run
    → DiffersAt run old new
    → ((bucket : ℕ) → bucket ≢ number → SameInBucket bucket (kept old) (kept new))
    → MarksChanged (kept old) (kept new) (bit_or 0 (2 ^ number))
marks_run number old run new are whole inside keys differs others bucket low =
    let set = bit_or 0 (2 ^ number) in
    elim (cases_eq bucket number) [
      | inl here ↦ (
          let bit : bit_at set bucket ≡ 1 = ap (λ (b : ℕ). bit_at set b) here ∙ in_it number in (
            (λ one. subst (λ b. bucket_entries b (kept new) ≢ bucket_entries b (kept old)) (sym here) (changes_in number old run new are whole inside keys differs)),
            λ none. absurd (omega (arith, bit, none)),
          )
          )
      | inr away ↦ (
          let bit : bit_at set bucket ≡ 0 = not_in_it number bucket away in (
            (λ one. absurd (omega (arith, bit, one))),
            λ none. others bucket away,
          )
          )
    ]
