-- An exchange of the buckets that differ, page by page.
use Rattle.std.proofs.Common.{◌≡◌, ◌≢◌, ◌⊎◌, inl, inr, ℕ, zero, suc, ◌<◌, ◌≤◌, Bool, true, false, cond, List, [], ◌∷◌, ◌++◌, map, filter, max, None, Result, Ok, Err, refl, sym, ap, subst, ◌∙◌, arith, Decides}
use Rattle.std.specs.Prelude.{◌==◌}
use Rattle.std.specs.List.{AllByRecursion}
use Rattle.std.specs.Int.{bit_at}
use Rattle.std.specs.Ordering.{is_eq, flip_args}
use Rattle.std.proofs.lemmas.Bool.{cases_eq, eq-eqb}
use Rattle.std.proofs.lemmas.List.{append-nil}
use Rattle.std.proofs.lemmas.Slice.Eq.{bytes_eq-Decides}
use Rattle.sha2.specs.Sha256.{sha256}
use Rattle.warm_stamps.specs.declared.PageId.{PageId}
use Rattle.warm_stamps.specs.declared.Reference.{Reference}
use Rattle.warm_stamps.specs.declared.TheConstants.{BUCKETS}
use Rattle.warm_stamps.specs.Buckets.{page_bucket}
use Rattle.warm_stamps.specs.Stamps.{stamp_cmp, page_cmp}
use Rattle.warm_stamps.specs.Distinct.{distinct}
use Rattle.warm_stamps.proofs.DistinctLemmas.{is_equal, all_filter}
use Rattle.warm_stamps.proofs.StampLemmas.{page_order}
use Rattle.warm_history.specs.Entry.{Entry}
use Rattle.warm_history.specs.Carried.{bucket_entries}
use Rattle.warm_history.specs.ReferenceSets.{ReferenceSet, references_from, references, ◌∪◌}
use Rattle.warm_history.specs.ListHistories.{list_references_to, first_two, list_hist}
use Rattle.warm_history.specs.Histories.{HistoryView, entries_of, history}
use Rattle.warm_history.proofs.ChangeLemmas.{get-bucket}
use Rattle.warm_history.proofs.KeptLemmas.{kept_alike}
use Rattle.warm_history.proofs.ListJoinLemmas.{hist_repeat}
use Rattle.warm_history.proofs.ListHistoryLemmas.{get, joined, hist-append, get-history}
use Rattle.warm_history.proofs.CarriedLemmas.{references-those}
use Rattle.warm_history.proofs.HistoryLemmas.{entries-history, references-both, same_hists}
use Rattle.warm_frames.specs.declared.fault.FrameFault.{FrameFault}
use Rattle.warm_frames.specs.declared.fault.FrameFault.TheVariants.{BadLength}
use Rattle.warm_frames.specs.Entries.{IsEntry, entries_bytes}
use Rattle.warm_frames.specs.Reading.{written_entry_at}
use Rattle.warm_frames.proofs.FieldLemmas.{written_again, nothing_written}
use Rattle.warm_digest.specs.Exchange.{bucket_text, IsCollision, IsDifferenceOf, in_buckets, Fits, ExchangeJoins}

-- ---- a text is of one list of entries

abbrev Read : Type 0
Read = Result (Entry × List ℕ) FrameFault

abbrev first_read : Read → Entry → Entry
first_read (Ok x) e = x.0
first_read (Err f) e = e

abbrev rest_read : Read → List ℕ
rest_read (Ok x) = x.1
rest_read (Err f) = []

nothing_there : written_entry_at None [] ≡ Err BadLength
nothing_there = nothing_written

abbrev ok : Entry → List ℕ → Read
ok e rest = Ok (e, rest)

never_both : {A : Type 0} (e : Entry) (rest : List ℕ) (read : Read) → read ≡ ok e rest
    → read ≡ Err BadLength → A
never_both e rest read is none = absurd (cc)

same_entries : (es fs : List Entry) → AllByRecursion IsEntry es → AllByRecursion IsEntry fs
    → entries_bytes es ≡ entries_bytes fs → es ≡ fs
same_entries [] [] some others same = refl
same_entries [] (f ∷ fs) some others same =
    never_both f (entries_bytes fs) (written_entry_at None []) (ap (written_entry_at None) same ∙ written_again None f (entries_bytes fs) others.0 refl) nothing_there
same_entries (e ∷ es) [] some others same =
    never_both e (entries_bytes es) (written_entry_at None []) (ap (written_entry_at None) (sym same) ∙ written_again None e (entries_bytes es) some.0 refl) nothing_there
same_entries (e ∷ es) (f ∷ fs) some others same =
    let both : ok e (entries_bytes es) ≡ ok f (entries_bytes fs) =
    sym (written_again None e (entries_bytes es) some.0 refl) ∙ ap (written_entry_at None) same ∙ written_again None f (entries_bytes fs) others.0 refl in
    let first : e ≡ f = ap (λ (r : Read). first_read r e) both in
    let later : es ≡ fs = same_entries es fs some.1 others.1 (ap rest_read both) in
    cc

-- ---- a bucket says all of its pages

-- lists that agree on a bucket agree on each of its pages
same_bucket_same_hist : (S T : ReferenceSet) (p : PageId)
    → bucket_entries (page_bucket p) (entries_of (history S))
    ≡ bucket_entries (page_bucket p) (entries_of (history T))
    → list_hist (references S) p ≡ list_hist (references T) p
same_bucket_same_hist S T p same =
    sym (get-history (references S) p)
    ∙ ap (λ es. get es p) (sym (entries-history S))
    ∙ sym (get-bucket (page_bucket p) (entries_of (history S)) p refl)
    ∙ ap (λ es. get es p) same
    ∙ get-bucket (page_bucket p) (entries_of (history T)) p refl
    ∙ ap (λ es. get es p) (entries-history T)
    ∙ get-history (references T) p

-- ---- references to pages that pass a test

abbrev pub kept : (PageId → Bool) → List Reference → List Reference
kept test S = filter (λ r. test r.page) S

references_to-kept : (test : PageId → Bool) (S : List Reference) (p : PageId)
    → list_references_to (kept test S) p ≡ cond (test p) (list_references_to S p) []
references_to-kept test [] p = cases (test p)
  where
    cases : (t : Bool) → list_references_to [] p ≡ cond t (list_references_to [] p) []
    cases true = refl
    cases false = refl
references_to-kept test (r ∷ S) p = cases (test r.page) refl (is_eq (page_cmp r.page p)) refl (references_to-kept test S p)
  where
    page_is : is_eq (page_cmp r.page p) ≡ true → test p ≡ test r.page
    page_is here = ap test (sym (page_order.same r.page p (is_equal (page_cmp r.page p) here)))

    cases : (t : Bool) → test r.page ≡ t → (c : Bool) → is_eq (page_cmp r.page p) ≡ c
        → list_references_to (kept test S) p ≡ cond (test p) (list_references_to S p) []
        → list_references_to (cond t (r ∷ kept test S) (kept test S)) p
        ≡ cond (test p) (cond c (r ∷ list_references_to S p) (list_references_to S p)) []
    cases true is true here rest =
        let yes : test p ≡ true = page_is here ∙ is in
        rw here (rw yes (ap (λ t. r ∷ t) (rest ∙ rw yes refl)))
    cases true is false other rest = rw other rest
    cases false is true here rest =
        let not : test p ≡ false = page_is here ∙ is in
        rest ∙ rw not refl
    cases false is false other rest = rest

pub hist-kept : (test : PageId → Bool) (S : List Reference) (p : PageId)
    → list_hist (kept test S) p ≡ cond (test p) (list_hist S p) None
hist-kept test S p =
    ap (λ rs. first_two (distinct (flip_args stamp_cmp) (map (λ (r : Reference). r.stamp) rs))) (references_to-kept test S p)
    ∙ elim (test p) as (λ b. first_two (distinct (flip_args stamp_cmp) (map (λ (r : Reference). r.stamp) (cond b (list_references_to S p) []))) ≡ cond b (list_hist S p) None) [ true ↦ refl | false ↦ refl ]

-- ---- what is known twice, and what is not known

pub joined_same : (S : List Reference) (p : PageId)
    → joined (list_hist S p) (list_hist S p) ≡ list_hist S p
joined_same S p = sym (hist-append S S p) ∙ hist_repeat S p

pub joined_none : (S : List Reference) (p : PageId) → joined (list_hist S p) None ≡ list_hist S p
joined_none S p = sym (hist-append S [] p) ∙ ap (λ (R : List Reference). list_hist R p) (append-nil S)

-- on pages that pass the test S says the same as its part that passes; on others S says what T does
hist_exchanged : (test : PageId → Bool) (S T : List Reference) (p : PageId)
    → (test p ≡ false → list_hist S p ≡ list_hist T p)
    → list_hist (T ++ kept test S) p ≡ list_hist (T ++ S) p
hist_exchanged test S T p same = hist-append T (kept test S) p ∙ ap (joined (list_hist T p)) (hist-kept test S p) ∙ cases (test p) refl ∙ sym (hist-append T S p)
  where
    cases : (t : Bool) → test p ≡ t
        → joined (list_hist T p) (cond t (list_hist S p) None)
        ≡ joined (list_hist T p) (list_hist S p)
    cases true is = refl
    cases false is = joined_none T p ∙ sym (joined_same T p) ∙ ap (joined (list_hist T p)) (sym (same is))

-- ---- digests

-- lists of numbers are the same, or differ
either_list : (xs ys : List ℕ) → (xs ≡ ys) ⊎ (xs ≢ ys)
either_list xs ys = cases _ (bytes_eq-Decides xs ys)
  where
    cases : (b : Bool) → Decides b (xs ≡ ys) → (xs ≡ ys) ⊎ (xs ≢ ys)
    cases true d = inl (d.0 refl)
    cases false d = inr (λ e. let never : false ≡ true = d.1 e in absurd (cc))

-- the bucket is exchanged, or both have one text of it
abbrev Settled : HistoryView → HistoryView → ℕ → ℕ → Type 0
Settled h g buckets bucket = (bit_at buckets bucket ≡ 1) ⊎ (bucket_text h bucket ≡ bucket_text g bucket)

settled_or_not : (h g : HistoryView) (buckets bucket : ℕ) → bucket < BUCKETS
    → IsDifferenceOf h g buckets → Settled h g buckets bucket ⊎ IsCollision h g
settled_or_not h g buckets bucket low differ = elim (cases_eq (bit_at buckets bucket) 1) [
  | inl set ↦ inl (inl set)
  | inr clear ↦ elim (either_list (bucket_text h bucket) (bucket_text g bucket)) [
    | inl same ↦ inl (inr same)
    | inr texts ↦ elim (either_list (sha256 (bucket_text h bucket)) (sha256 (bucket_text g bucket))) [
      | inl digests ↦ inr (record { bucket = bucket; low = low; differ = texts; same_digest = digests })
      | inr digests ↦ absurd (clear ((differ bucket low).1 digests))
    ]
  ]
]

all_settled : (h g : HistoryView) (buckets n : ℕ) → n ≤ BUCKETS → IsDifferenceOf h g buckets
    → ((bucket : ℕ) → bucket < n → Settled h g buckets bucket) ⊎ IsCollision h g
all_settled h g buckets zero few differ = inl (λ bucket below. absurd (omega (arith, below)))
all_settled h g buckets (suc n) few differ = elim (all_settled h g buckets n (omega arith) differ) [
  | inr collision ↦ inr collision
  | inl before ↦ elim (settled_or_not h g buckets n (omega arith) differ) [
    | inr collision ↦ inr collision
    | inl this ↦ inl (λ bucket below. elim (cases_eq bucket n) [
      | inl same ↦ subst (Settled h g buckets) (sym same) this
      | inr other ↦ before bucket (omega arith)
    ])
  ]
]

-- ---- the exchange

low_bucket : (p : PageId) → page_bucket p < BUCKETS
low_bucket p = omega arith

exchanged : (S T : ReferenceSet) (buckets : ℕ) → Fits (history S) → Fits (history T)
    → ((bucket : ℕ) → bucket < BUCKETS → Settled (history S) (history T) buckets bucket)
    → history (T ∪ in_buckets buckets S) ≡ history (T ∪ S)
exchanged S T buckets fits others settled =
    let test : PageId → Bool = λ q. bit_at buckets (page_bucket q) == 1 in
    let m = max T.horizon S.horizon in
    let alike : (p : PageId) → list_hist (references T ++ kept test (references S)) p ≡ list_hist (references T ++ references S) p = λ p.
    hist_exchanged test (references S) (references T) p (λ clear. elim (settled (page_bucket p) (low_bucket p)) [
      | inl set ↦ (let never : true ≡ false = sym (eq-eqb (bit_at buckets (page_bucket p)) 1 set) ∙ clear in absurd (cc))
      | inr text ↦ same_bucket_same_hist S T p (same_entries
          (bucket_entries (page_bucket p) (entries_of (history S))) (bucket_entries (page_bucket p) (entries_of (history T)))
          (all_filter IsEntry (λ e. page_bucket e.page == page_bucket p) (entries_of (history S)) fits)
          (all_filter IsEntry (λ e. page_bucket e.page == page_bucket p) (entries_of (history T)) others)
          text)
    ]) in
    same_hists (T ∪ in_buckets buckets S) (T ∪ S) refl (λ p.
    ap (λ rs. list_hist rs p) (references-both T (in_buckets buckets S))
    ∙ ap (λ rs. list_hist (references_from m (references T ++ rs)) p) (references-those (λ r. test r.page) S)
    ∙ kept_alike m (references T ++ kept test (references S)) (references T ++ references S) alike p
    ∙ ap (λ rs. list_hist rs p) (sym (references-both T S)))

pub exchange_joins : ExchangeJoins
exchange_joins S T buckets fits others differ = elim (all_settled (history S) (history T) buckets BUCKETS (omega arith) differ) [
  | inl settled ↦ inl (exchanged S T buckets fits others settled)
  | inr collision ↦ inr collision
]
