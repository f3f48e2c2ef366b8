-- What a horizon leaves of a bucket, read from a history that isn't raised to it.
use Rattle.std.proofs.Common.{◌≡◌, ◌≤◌, ℕ, max, Bool, true, false, cond, List, [], ◌∷◌, ◌++◌, Some, None, refl, sym, ap, subst, ◌∙◌, arith}
use Rattle.std.specs.Prelude.{◌==◌}
use Rattle.warm_stamps.specs.Buckets.{page_bucket}
use Rattle.warm_maps.specs.declared.hist.Entry.{Entry}
use Rattle.warm_history.specs.Carried.{bucket_entries}
use Rattle.warm_history.specs.Histories.{HistoryView, IsHistory, IsKept, NoneOlder, entries_of, history, references_of}
use Rattle.warm_history.specs.KeptEntries.{is_recent, shortened, shortened_entry, kept_entries}
use Rattle.warm_history.specs.Losses.{KeepsIn, LosesIn, bucket_at_horizon}
use Rattle.warm_history.specs.ReferenceSets.{with_horizon}
use Rattle.warm_history.proofs.KeptLemmas.{none_older, entries_recent}
use Rattle.warm_history.proofs.RaiseLemmas.{raised_to}

-- ---- what is left of a bucket

-- it is the bucket of what is left
pub bucket_left : (m bucket : ℕ) (es : List Entry)
    → kept_entries m (bucket_entries bucket es) ≡ bucket_entries bucket (kept_entries m es)
bucket_left m bucket [] = refl
bucket_left m bucket (e ∷ es) = cases (is_recent m e.hist) refl (page_bucket e.page == bucket) refl (bucket_left m bucket es)
  where
    cases : (b : Bool) → is_recent m e.hist ≡ b → (c : Bool) → (page_bucket e.page == bucket) ≡ c
        → kept_entries m (bucket_entries bucket es) ≡ bucket_entries bucket (kept_entries m es)
        → kept_entries m (bucket_entries bucket (e ∷ es))
        ≡ bucket_entries bucket (kept_entries m (e ∷ es))
    cases true recent true there rest = rw (there, recent) (rw there (ap (λ t. shortened_entry m e ∷ t) rest))
    cases true recent false away rest = rw (away, recent) (rw away rest)
    cases false older true there rest = rw (there, older) rest
    cases false older false away rest = rw (away, older) rest

-- the entries of a history that is raised are those that are left at the greater horizon
raised_entries : (h : HistoryView) (time : ℕ) → IsHistory h
    → kept_entries (max h.horizon time) (entries_of h)
    ≡ entries_of (history (with_horizon time (references_of h)))
raised_entries h time whole = ap entries_of (raised_to h.horizon time (max h.horizon time) (entries_of h) _ whole refl refl)

pub raised_bucket : (h : HistoryView) (time bucket : ℕ) → IsHistory h
    → kept_entries (max h.horizon time) (bucket_entries bucket (entries_of h))
    ≡ bucket_entries bucket (entries_of (history (with_horizon time (references_of h))))
raised_bucket h time bucket whole = bucket_left (max h.horizon time) bucket (entries_of h) ∙ ap (bucket_entries bucket) (raised_entries h time whole)

-- ---- whether something is lost

-- nothing that is left is older than the horizon
pub none_left_older : (m : ℕ) (es : List Entry) → NoneOlder m (kept_entries m es)
none_left_older m [] = tt
none_left_older m (e ∷ es) = cases (is_recent m e.hist) refl (none_left_older m es)
  where
    cases : (b : Bool) → is_recent m e.hist ≡ b → NoneOlder m (kept_entries m es)
        → NoneOlder m (kept_entries m (e ∷ es))
    cases true is rest = rw is (none_older m (shortened m e.hist) (Some e.hist) (ap (λ b. cond b (Some (shortened m e.hist)) None) is), rest)
    cases false is rest = rw is rest

-- of the entries of a bucket of a history none is older than its horizon
none_in_bucket : (m bucket : ℕ) (es : List Entry) → NoneOlder m es
    → NoneOlder m (bucket_entries bucket es)
none_in_bucket m bucket [] all = tt
none_in_bucket m bucket (e ∷ es) all = elim (page_bucket e.page == bucket) as (λ b. NoneOlder m (cond b (e ∷ bucket_entries bucket es) (bucket_entries bucket es))) [
  | true ↦ (all.0, none_in_bucket m bucket es all.1)
  | false ↦ none_in_bucket m bucket es all.1
]

-- an entry with an older stamp is a counterexample
pub one_of_all : (m : ℕ) (before after all : List Entry) (e : Entry) → before ++ e ∷ after ≡ all
    → NoneOlder m all → IsKept m e.hist
one_of_all m before after all e is none = one before (subst (NoneOlder m) (sym is) none)
  where
    one : (before : List Entry) → NoneOlder m (before ++ e ∷ after) → IsKept m e.hist
    one [] none = none.0
    one (x ∷ before) none = one before none.1

-- at a horizon that is not greater than the history's own nothing is lost
pub keeps_all : (h : HistoryView) (time bucket : ℕ) → IsHistory h → time ≤ h.horizon
    → KeepsIn time bucket h
keeps_all h time bucket whole le =
    let own : max h.horizon time ≡ h.horizon = omega arith in
    sym (raised_bucket h time bucket whole)
    ∙ ap (λ m. kept_entries m (bucket_entries bucket (entries_of h))) own
    ∙ entries_recent h.horizon _ (none_in_bucket h.horizon bucket (entries_of h) whole.none_older)

-- past it a bucket is what is left of it
left_past : (h : HistoryView) (time bucket : ℕ) → IsHistory h → h.horizon ≤ time
    → kept_entries time (bucket_entries bucket (entries_of h)) ≡ bucket_at_horizon time bucket h
left_past h time bucket whole le =
    let past : max h.horizon time ≡ time = omega arith in
    ap (λ m. kept_entries m (bucket_entries bucket (entries_of h))) (sym past) ∙ raised_bucket h time bucket whole

-- it keeps everything if it has no older stamp, and otherwise loses something
pub keeps_recent : (h : HistoryView) (time bucket : ℕ) → IsHistory h → h.horizon ≤ time
    → NoneOlder time (bucket_entries bucket (entries_of h)) → KeepsIn time bucket h
keeps_recent h time bucket whole le none = sym (left_past h time bucket whole le) ∙ entries_recent time _ none

pub loses_older : (h : HistoryView) (time bucket : ℕ) → IsHistory h → h.horizon ≤ time
    → (NoneOlder time (bucket_entries bucket (entries_of h)) → ⊥) → LosesIn time bucket h
loses_older h time bucket whole le older same =
    let here = bucket_entries bucket (entries_of h) in
    older (subst (NoneOlder time) (left_past h time bucket whole le ∙ same) (none_left_older time here))
