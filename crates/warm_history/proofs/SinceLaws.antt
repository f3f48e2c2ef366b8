-- What the entries since a time bring to who has all from before, and what comes after a portion.
use Rattle.std.proofs.Common.{◌≡◌, ℕ, zero, suc, Bool, true, false, cond, ◌&&◌, List, [], ◌∷◌, ◌++◌, take, drop, filter, max, Option, Some, None, refl, sym, ap, subst, ◌∙◌, inl, inr, arith, ◌⊎◌, add-one}
use Rattle.std.specs.Prelude.{◌==◌, slice_get}
use Rattle.std.specs.List.{AllByRecursion, Contains}
use Rattle.std.specs.Ordering.{flip_args, is_lt, on}
use Rattle.std.specs.declared.cmp.Ordering.TheVariants.{Less, Equal, Greater}
use Rattle.std.proofs.lemmas.Bool.Decides.{nat_tests}
use Rattle.std.proofs.lemmas.Cmp.{tied_itself}
use Rattle.std.proofs.lemmas.Option.{same_Some}
use Rattle.std.proofs.lemmas.List.Elements.{All-contains, All-from_recursion, Contains-append_cases, Contains-append_right, Contains-get_or, Contains-push_cases}
use Rattle.warm_stamps.specs.declared.PageId.{PageId}
use Rattle.warm_stamps.specs.declared.Reference.{Reference}
use Rattle.warm_stamps.specs.declared.Stamp.{Stamp}
use Rattle.warm_stamps.specs.Buckets.{page_bucket}
use Rattle.warm_stamps.specs.Distinct.{distinct}
use Rattle.warm_stamps.specs.Stamps.{stamp_cmp, page_cmp}
use Rattle.warm_stamps.proofs.DistinctLemmas.{Has, flipped, has_from_distinct, rising_filter}
use Rattle.warm_stamps.proofs.StampLemmas.{stamp_order, page_order, IsStrictOrder-flip}
use Rattle.warm_maps.specs.declared.hist.PageHist.{PageHist}
use Rattle.warm_maps.specs.declared.hist.PageHist.TheVariants.{Once, Twice}
use Rattle.warm_maps.specs.declared.hist.Entry.{Entry}
use Rattle.warm_history.specs.Carried.{after_page, comes_after, is_next_in_bucket, later_of_bucket}
use Rattle.warm_history.specs.Histories.{entries_of, history, history_of_entries_at, references_of}
use Rattle.warm_history.specs.KeptEntries.{is_recent}
use Rattle.warm_history.specs.ListHistories.{IsDescending, PagesAscend, first_two, known_stamps, list_history, list_references_of, references_of_entry}
use Rattle.warm_history.specs.ReferenceSets.{ReferenceSet, is_kept, references, references_from, ◌∪◌}
use Rattle.warm_history.specs.References.{IsIn, SameReferences}
use Rattle.warm_history.specs.Since.{AreSince, HasBefore, PortionsGoOn, SinceBringsAll, entries_since, recent_entries}
use Rattle.warm_history.proofs.HistoryLemmas.{IsHistory-history, entries-history, horizon-history, same_hists}
use Rattle.warm_history.proofs.JoinLemmas.{history_second}
use Rattle.warm_history.proofs.KeptLemmas.{older_forgotten}
use Rattle.warm_history.proofs.ListHistoryLemmas as of_list
use Rattle.warm_history.proofs.ListSetLemmas.{told_has, told_is_in}
use Rattle.warm_history.proofs.SetLemmas.{hist_of_set}

-- ---- references in a list

in_both : (r : Reference) (S T : List Reference) → IsIn r (S ++ T) → IsIn r S ⊎ IsIn r T
in_both r [] T here = inr here
in_both r (s ∷ S) T here = elim here [
  | inl e ↦ inl (inl e)
  | inr later ↦ elim (in_both r S T later) [ inl first ↦ inl (inr first) | inr second ↦ inr second ]
]

in_first : (r : Reference) (S T : List Reference) → IsIn r S → IsIn r (S ++ T)
in_first r [] T here = absurd here
in_first r (s ∷ S) T here = elim here [ inl e ↦ inl e | inr later ↦ inr (in_first r S T later) ]

in_second : (r : Reference) (S T : List Reference) → IsIn r T → IsIn r (S ++ T)
in_second r [] T here = here
in_second r (s ∷ S) T here = inr (in_second r S T here)

pub in_kept : (m : ℕ) (r : Reference) (S : List Reference) → IsIn r S → is_kept m r.stamp ≡ true
    → IsIn r (references_from m S)
in_kept m r [] here is = absurd here
in_kept m r (s ∷ S) here is = elim here [
  | inl e ↦ let kept : is_kept m s.stamp ≡ true = ap (λ (x : Reference). is_kept m x.stamp) e ∙ is in rw kept (inl e)
  | inr later ↦ elim (is_kept m s.stamp) as (λ b. IsIn r (cond b (s ∷ references_from m S) (references_from m S))) [ true ↦ inr (in_kept m r S later is) | false ↦ in_kept m r S later is ]
]

pub from_kept : (m : ℕ) (r : Reference) (S : List Reference) → IsIn r (references_from m S)
    → IsIn r S × (is_kept m r.stamp ≡ true)
from_kept m r [] here = absurd here
from_kept m r (s ∷ S) here = cases (is_kept m s.stamp) refl (from_kept m r S)
  where
    cases : (b : Bool) → is_kept m s.stamp ≡ b
        → (IsIn r (references_from m S) → IsIn r S × (is_kept m r.stamp ≡ true))
        → IsIn r (s ∷ S) × (is_kept m r.stamp ≡ true)
    cases true is rest = elim (rw is at here) [ inl e ↦ (inl e, ap (λ (x : Reference). is_kept m x.stamp) (sym e) ∙ is) | inr later ↦ (inr (rest later).0, (rest later).1) ]
    cases false is rest = let there = rest (rw is at here) in (inr there.0, there.1)

-- ---- references that entries hold

-- each is held by one of them
in_entry : (r : Reference) (es : List Entry) → IsIn r (list_references_of es)
    → (e : Entry) × Contains es e × IsIn r (references_of_entry e)
in_entry r [] here = absurd here
in_entry r (e ∷ es) here = elim (in_both r (references_of_entry e) (list_references_of es) here) [
  | inl own ↦ (e, Contains-get_or (e ∷ es) 0 e (omega arith), own)
  | inr later ↦ let there = in_entry r es later in (there.0, Contains-append_right (e ∷ []) es there.0 there.1, there.2)
]

of_entry : (r : Reference) (es : List Entry) (e : Entry) → Contains es e
    → IsIn r (references_of_entry e) → IsIn r (list_references_of es)
of_entry r [] e has here = absurd (omega (arith, has.1))
of_entry r (f ∷ es) e has here = elim (Contains-append_cases (f ∷ []) es e has) [
  | inl first ↦ elim (Contains-push_cases [] f e first) [
    | inl none ↦ absurd (omega (arith, none.1))
    | inr is ↦ in_first r (references_of_entry f) (list_references_of es) (subst (λ x. IsIn r (references_of_entry x)) (sym is) here)
  ]
  | inr later ↦ in_second r (references_of_entry f) (list_references_of es) (of_entry r es e later here)
]

-- if the latest stamp of an entry is before a time, all its stamps are
all_before : (m : ℕ) (r : Reference) (p : PageId) (h : PageHist) → IsDescending h
    → is_recent m h ≡ false → IsIn r (references_of_entry (record { page = p; hist = h }))
    → is_kept m r.stamp ≡ false
all_before m r p (Once last) falls old here = elim here [ inl e ↦ ap (λ (x : Reference). is_kept m x.stamp) (sym e) ∙ old | inr none ↦ absurd none ]
all_before m r p (Twice two) falls old here = elim here [
  | inl e ↦ ap (λ (x : Reference). is_kept m x.stamp) (sym e) ∙ old
  | inr (inl e) ↦ ap (λ (x : Reference). is_kept m x.stamp) (sym e) ∙ older_forgotten m two.last two.prev falls old
  | inr (inr none) ↦ absurd none
]

in_first_two : (ss : List Stamp) (s : Stamp) → Has (known_stamps (first_two ss)) s → Has ss s
in_first_two [] s has = has
in_first_two (a ∷ []) s has = has
in_first_two (a ∷ b ∷ ss) s has = elim has [ inl e ↦ inl e | inr (inl e) ↦ inr (inl e) | inr (inr none) ↦ absurd none ]

-- a history holds references that it was given
held_is_given : (S : List Reference) (r : Reference) → IsIn r (list_references_of (list_history S))
    → IsIn r S
held_is_given S r here =
    let falls = flip_args stamp_cmp in
    let held : Has (of_list.told (list_references_of (list_history S)) r.page) r.stamp = told_has (list_references_of (list_history S)) r.page r.stamp here in
    let is : of_list.told (list_references_of (list_history S)) r.page ≡ known_stamps (first_two (distinct falls (of_list.told S r.page))) = of_list.told_refs (list_history S) (of_list.IsHistory-history S).pages_ascend r.page ∙ ap known_stamps (of_list.get-history S r.page) in
    told_is_in S r.page r.stamp (has_from_distinct falls (IsStrictOrder-flip stamp_cmp stamp_order) (of_list.told S r.page) r.stamp
    (in_first_two (distinct falls (of_list.told S r.page)) r.stamp (subst (λ ss. Has ss r.stamp) is held)))

-- ---- all that a sender keeps

kept_by_lesser : (a b : ℕ) (s : Stamp) → is_kept (max a b) s ≡ true → is_kept a s ≡ true
kept_by_lesser a b s is = grind (arith, nat_tests)

module _ (S T : ReferenceSet) (since : ℕ) (es : List Entry) (before : HasBefore since S T) (are : AreSince since (history S) es) where
  held : List Reference
  held = list_references_of (entries_of (history S))

  given : List Reference
  given = list_references_of es

  -- a reference that the history holds is brought, or was there
  brought : (r : Reference) → IsIn r held → is_kept (max T.horizon S.horizon) r.stamp ≡ true
      → IsIn r (T.given ++ given)
  unfolding history held given
  brought r here kept =
      let of = in_entry r (entries_of (history S)) here in
      let e = of.0 in
      let falls : IsDescending e.hist = All-contains (λ x. IsDescending x.hist) (entries_of (history S)) e (All-from_recursion (λ x. IsDescending x.hist) (entries_of (history S)) (IsHistory-history S).stamps_descend) of.1 in
      cases (is_recent since e.hist) e refl of.1 of.2 falls
    where
      cases : (b : Bool) → (e : Entry) → is_recent since e.hist ≡ b → Contains (entries_of (history S)) e
          → IsIn r (references_of_entry e) → IsDescending e.hist → IsIn r (T.given ++ given)
      cases true e is has own falls = in_second r T.given given (of_entry r es e (are.each e has is) own)
      cases false e is has own falls =
          let old : is_kept since r.stamp ≡ false = all_before since r e.page e.hist falls is own in
          let kept_there : IsIn r (references S) = held_is_given (references S) r (subst (λ fs. IsIn r (list_references_of fs)) (entries-history S) here) in
          in_first r T.given given (from_kept T.horizon r T.given (before r kept_there old (kept_by_lesser T.horizon S.horizon r.stamp kept))).0

  same : SameReferences (T ∪ references_of (history_of_entries_at S.horizon es))
      (T ∪ references_of (history S))
  unfolding history held given
  same =
      let horizons = horizon-history S in
      record {
        there = λ r here.
            let from = from_kept (max T.horizon S.horizon) r (T.given ++ given) here in
            let kept : is_kept (max T.horizon (history S).horizon) r.stamp ≡ true = subst (λ m. is_kept (max T.horizon m) r.stamp ≡ true) (sym horizons) from.1 in
            in_kept (max T.horizon (history S).horizon) r (T.given ++ held) (elim (in_both r T.given given from.0) [
              | inl own ↦ in_first r T.given held own
              | inr more ↦ let of = in_entry r es more in in_second r T.given held (of_entry r (entries_of (history S)) of.0 (are.own of.0 of.1) of.2)
            ]) kept;
        back = λ r here.
            let from = from_kept (max T.horizon (history S).horizon) r (T.given ++ held) here in
            let kept : is_kept (max T.horizon S.horizon) r.stamp ≡ true = subst (λ m. is_kept (max T.horizon m) r.stamp ≡ true) horizons from.1 in
            in_kept (max T.horizon S.horizon) r (T.given ++ given) (elim (in_both r T.given held from.0) [ inl own ↦ in_first r T.given given own | inr more ↦ brought r more kept ]) kept;
      }

pub since_brings_all : SinceBringsAll
since_brings_all S T since es before are =
    let first = T ∪ references_of (history_of_entries_at S.horizon es) in
    let second = T ∪ references_of (history S) in
    same_hists first second (ap (max T.horizon) (sym (horizon-history S))) (hist_of_set first second (same S T since es before are))
    ∙ history_second T S

-- ---- after a portion

-- of entries that are all greater, all come after
all_after : (q : PageId) (es : List Entry) → AllByRecursion (λ x. page_cmp q x.page ≡ Less) es
    → after_page q es ≡ es
all_after q [] all = refl
all_after q (x ∷ es) all = rw all.0 (ap (λ t. x ∷ t) (all_after q es all.1))

at_index : (P : Entry → Type 0) (es : List Entry) (k : ℕ) (e : Entry) → AllByRecursion P es
    → slice_get es k ≡ Some e → P e
at_index P [] k e all is = let no : None ≡ Some e = is in absurd (cc)
at_index P (x ∷ es) zero e all is = let same : x ≡ e = same_Some x e is in subst P same all.0
at_index P (x ∷ es) (suc k) e all is = at_index P es k e all.1 is

-- of rising entries those after the page of one are those behind it
behind : (es : List Entry) (k : ℕ) (e : Entry) → PagesAscend es → slice_get es k ≡ Some e
    → after_page e.page es ≡ drop (suc k) es
behind [] k e rise is = let no : None ≡ Some e = is in absurd (cc)
behind (x ∷ es) zero e rise is =
    let same : x ≡ e = same_Some x e is in
    subst (λ (y : Entry). after_page y.page (x ∷ es) ≡ es) same (rw (tied_itself page_order.total x.page) (all_after x.page es rise.0))
behind (x ∷ es) (suc k) e rise is =
    let less : page_cmp x.page e.page ≡ Less = at_index (λ y. page_cmp x.page y.page ≡ Less) es k e rise.0 is in
    let more : page_cmp e.page x.page ≡ Greater = flipped page_cmp page_order x.page e.page Less less in
    rw more (behind es k e rise.1 is)

less_is : (q p : PageId) → is_lt (page_cmp q p) ≡ true → page_cmp q p ≡ Less
less_is q p is = cases (page_cmp q p) refl is
  where
    cases : (o : _) → page_cmp q p ≡ o → is_lt o ≡ true → page_cmp q p ≡ Less
    cases Less e lt = e
    cases Equal e lt = let never : false ≡ true = lt in absurd (cc)
    cases Greater e lt = let never : false ≡ true = lt in absurd (cc)

after_too : (after : Option PageId) (q p : PageId) → comes_after after q ≡ true
    → is_lt (page_cmp q p) ≡ true → comes_after after p ≡ true
after_too None q p first second = refl
after_too (Some a) q p first second = rw (page_order.total.trans a q p (less_is a q first) (less_is q p second)) refl

-- of the recent entries that come after a page, those after a later one are all after that one
recent-after : (bucket since : ℕ) (after : Option PageId) (q : PageId)
    → comes_after after q ≡ true → (es : List Entry)
    → entries_since bucket since (Some q) es
    ≡ after_page q (entries_since bucket since after es)
recent-after bucket since after q first [] = refl
recent-after bucket since after q first (e ∷ es) = cases (page_bucket e.page == bucket) refl (comes_after after e.page) refl (is_lt (page_cmp q e.page)) refl (is_recent since e.hist) refl (after_too after q e.page first) (recent-after bucket since after q first es)
  where
    cases : (b : Bool) → (page_bucket e.page == bucket) ≡ b → (u : Bool) → comes_after after e.page ≡ u
        → (v : Bool) → is_lt (page_cmp q e.page) ≡ v → (w : Bool) → is_recent since e.hist ≡ w
        → (is_lt (page_cmp q e.page) ≡ true → comes_after after e.page ≡ true)
        → entries_since bucket since (Some q) es
        ≡ after_page q (entries_since bucket since after es)
        → entries_since bucket since (Some q) (e ∷ es)
        ≡ after_page q (entries_since bucket since after (e ∷ es))
    cases false b_is u u_is v v_is w w_is too rest = rw b_is rest
    cases true b_is true u_is true v_is true w_is too rest = rw (b_is, u_is, v_is) (rw w_is (rw v_is (ap (λ t. e ∷ t) rest)))
    cases true b_is true u_is true v_is false w_is too rest = rw (b_is, u_is, v_is) (rw w_is rest)
    cases true b_is true u_is false v_is true w_is too rest = rw (b_is, u_is, v_is) (rw w_is (rw v_is rest))
    cases true b_is true u_is false v_is false w_is too rest = rw (b_is, u_is, v_is) (rw w_is rest)
    cases true b_is false u_is true v_is w w_is too rest = let never : false ≡ true = sym u_is ∙ too v_is in absurd (cc)
    cases true b_is false u_is false v_is w w_is too rest = rw (b_is, u_is, v_is) rest

-- each of them comes after the page
all_later : (bucket since : ℕ) (after : Option PageId) (es : List Entry)
    → AllByRecursion (λ x. comes_after after x.page ≡ true) (entries_since bucket since after es)
all_later bucket since after [] = tt
all_later bucket since after (e ∷ es) = cases (page_bucket e.page == bucket) (comes_after after e.page) refl (is_recent since e.hist) refl (all_later bucket since after es)
  where
    cases : (b u : Bool) → comes_after after e.page ≡ u → (w : Bool) → is_recent since e.hist ≡ w
        → AllByRecursion (λ x. comes_after after x.page ≡ true) (entries_since bucket since after es)
        → AllByRecursion (λ x. comes_after after x.page ≡ true)
        (recent_entries since (cond (b && u) (e ∷ later_of_bucket bucket after es)
        (later_of_bucket bucket after es)))
    cases false u is w w_is rest = rest
    cases true false is w w_is rest = rest
    cases true true is true w_is rest = rw w_is (is, rest)
    cases true true is false w_is rest = rw w_is rest

pub portions_go_on : PortionsGoOn
portions_go_on h bucket since after k e whole is =
    let es = entries_of h in
    let chosen = entries_since bucket since after es in
    let rise : PagesAscend chosen = rising_filter (on (λ x. x.page) page_cmp) (λ x. is_recent since x.hist) (later_of_bucket bucket after es) (rising_filter (on (λ x. x.page) page_cmp) (λ x. is_next_in_bucket bucket after x.page) es whole.pages_ascend) in
    let first : comes_after after e.page ≡ true = at_index (λ x. comes_after after x.page ≡ true) chosen k e (all_later bucket since after es) is in
    recent-after bucket since after e.page first es ∙ rw add-one (behind chosen k e rise is)

-- ---- what a portion holds

held_by_some : (test : Entry → Bool) (es : List Entry) (r : Reference)
    → IsIn r (list_references_of (filter test es)) → IsIn r (list_references_of es)
held_by_some test [] r here = absurd here
held_by_some test (e ∷ es) r here = cases (test e) refl (held_by_some test es r)
  where
    cases : (b : Bool) → test e ≡ b
        → (IsIn r (list_references_of (filter test es)) → IsIn r (list_references_of es))
        → IsIn r (list_references_of (e ∷ es))
    cases true is rest = elim (in_both r (references_of_entry e) (list_references_of (filter test es)) (rw is at here)) [
      | inl own ↦ in_first r (references_of_entry e) (list_references_of es) own
      | inr later ↦ in_second r (references_of_entry e) (list_references_of es) (rest later)
    ]
    cases false is rest = in_second r (references_of_entry e) (list_references_of es) (rest (rw is at here))

held_by_first : (n : ℕ) (es : List Entry) (r : Reference)
    → IsIn r (list_references_of (take n es)) → IsIn r (list_references_of es)
held_by_first zero es r here = absurd here
held_by_first (suc n) [] r here = absurd here
held_by_first (suc n) (e ∷ es) r here = elim (in_both r (references_of_entry e) (list_references_of (take n es)) here) [
  | inl own ↦ in_first r (references_of_entry e) (list_references_of es) own
  | inr later ↦ in_second r (references_of_entry e) (list_references_of es) (held_by_first n es r later)
]

-- the references of the first entries since a time are among those of all entries
pub portion_is_held : (bucket since limit : ℕ) (after : Option PageId) (es : List Entry)
    (r : Reference) → IsIn r (list_references_of (take limit (entries_since bucket since after es)))
    → IsIn r (list_references_of es)
portion_is_held bucket since limit after es r here =
    held_by_some (λ e. is_next_in_bucket bucket after e.page) es r
    (held_by_some (λ e. is_recent since e.hist) (later_of_bucket bucket after es) r (held_by_first limit (entries_since bucket since after es) r here))
