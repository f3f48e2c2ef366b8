-- What a list keeps beyond a horizon depends on the two latest stamps of each page alone.
use Rattle.std.proofs.Common.{◌≡◌, ℕ, ◌≤◌, Bool, true, false, cond, is_some, List, [], ◌∷◌, ◌++◌, map, sym, ap, refl, ◌∙◌, subst, Option, Some, None, inl, inr, arith}
use Rattle.std.specs.List.{filter, cons_option, AllByRecursion}
use Rattle.std.specs.Option.{option_map, option_and_then}
use Rattle.std.specs.Ordering.{is_eq, flip_args, nat_cmp}
use Rattle.std.specs.declared.cmp.Ordering.{Ordering}
use Rattle.std.specs.declared.cmp.Ordering.TheVariants.{Less, Greater}
use Rattle.std.proofs.lemmas.Bool.Decides.{nat_tests}
use Rattle.warm_stamps.specs.declared.Stamp.{Stamp}
use Rattle.warm_stamps.specs.declared.PageId.{PageId}
use Rattle.warm_stamps.specs.declared.Reference.{Reference}
use Rattle.warm_stamps.specs.Stamps.{stamp_cmp, page_cmp}
use Rattle.warm_stamps.specs.Distinct.{distinct, IsAscending}
use Rattle.warm_stamps.proofs.DistinctLemmas.{Has, IsStrictOrder, by_cases, distinct_same, distinct_rising, distinct_rises, has_distinct, has_from_distinct, rising_filter}
use Rattle.warm_stamps.proofs.StampLemmas.{stamp_order, page_order, IsStrictOrder-flip}
use Rattle.warm_maps.specs.declared.hist.PageHist.{PageHist}
use Rattle.warm_maps.specs.declared.hist.PageHist.TheVariants.{Once, Twice}
use Rattle.warm_maps.specs.declared.hist.Entry.{Entry}
use Rattle.warm_history.specs.ReferenceSets.{is_kept, references_from}
use Rattle.warm_history.specs.KeptEntries.{is_recent, shortened, shortened_entry, kept_hist, kept_entries}
use Rattle.warm_history.specs.ListHistories.{first_two, list_hist, list_stamps, list_pages, list_history, references_of_entry, hist_stamps, list_references_of}
use Rattle.std.proofs.lemmas.List.Elements.{filter-append}
use Rattle.warm_history.proofs.ListHistoryLemmas.{told, entries, get_entries, rising_entries, named-distinct, named-some, get-history, IsHistory-history, same_gets}

-- ---- cuts of lists

pub kept-append : (m : ℕ) (S T : List Reference)
    → references_from m (S ++ T) ≡ references_from m S ++ references_from m T
kept-append m S T = filter-append (λ r. is_kept m r.stamp) S T

within : (a m : ℕ) (s : Stamp) → a ≤ m → is_kept a s ≡ false → is_kept m s ≡ false
within a m s le old = grind (arith, nat_tests)

-- a lesser cut before a greater one changes nothing
pub kept_within : (a m : ℕ) → a ≤ m → (S : List Reference)
    → references_from m (references_from a S) ≡ references_from m S
kept_within a m le [] = refl
kept_within a m le (r ∷ S) = cases (is_kept a r.stamp) refl (is_kept m r.stamp) refl (kept_within a m le S)
  where
    cases : (b : Bool) → is_kept a r.stamp ≡ b → (c : Bool) → is_kept m r.stamp ≡ c
        → references_from m (references_from a S) ≡ references_from m S
        → references_from m (references_from a (r ∷ S)) ≡ references_from m (r ∷ S)
    cases true ra true rm rest = rw (ra, rm) (ap (λ t. r ∷ t) rest)
    cases true ra false rm rest = rw (ra, rm) rest
    cases false ra true rm rest = let no : true ≡ false = sym rm ∙ within a m r.stamp le ra in absurd (cc)
    cases false ra false rm rest = rw (ra, rm) rest

-- a lesser cut after a greater one changes nothing
pub kept_after : (a m : ℕ) → a ≤ m → (S : List Reference)
    → references_from a (references_from m S) ≡ references_from m S
kept_after a m le [] = refl
kept_after a m le (r ∷ S) = cases (is_kept m r.stamp) refl (is_kept a r.stamp) refl (kept_after a m le S)
  where
    cases : (b : Bool) → is_kept m r.stamp ≡ b → (c : Bool) → is_kept a r.stamp ≡ c
        → references_from a (references_from m S) ≡ references_from m S
        → references_from a (references_from m (r ∷ S)) ≡ references_from m (r ∷ S)
    cases true rm true ra rest = rw (rm) (rw ra (ap (λ t. r ∷ t) rest))
    cases true rm false ra rest = let no : true ≡ false = sym rm ∙ within a m r.stamp le ra in absurd (cc)
    cases false rm c ra rest = rw rm rest

-- what is cut at two horizons together is cut at the greater one
pub kept_both : (a b m : ℕ) → a ≤ m → b ≤ m → (S T : List Reference)
    → references_from m (references_from a S ++ references_from b T) ≡ references_from m (S ++ T)
kept_both a b m le_a le_b S T =
    kept-append m (references_from a S) (references_from b T)
    ∙ ap (λ t. t ++ references_from m (references_from b T)) (kept_within a m le_a S)
    ∙ ap (λ t. references_from m S ++ t) (kept_within b m le_b T)
    ∙ sym (kept-append m S T)

-- nothing is older than time 0
pub kept_all : (S : List Reference) → references_from 0 S ≡ S
kept_all [] = refl
kept_all (r ∷ S) = let here : is_kept 0 r.stamp ≡ true = grind (arith, nat_tests) in rw here (ap (λ t. r ∷ t) (kept_all S))

-- a list of which the last items are the distinct ones, rising
distinct_is : {A : Type 0} (cmp : A → A → Ordering) (order : IsStrictOrder cmp) (xs ys : List A)
    → IsAscending cmp ys → ((x : A) → Has xs x → Has ys x) → ((x : A) → Has ys x → Has xs x)
    → distinct cmp xs ≡ ys
distinct_is cmp order xs ys rising there back = distinct_same cmp order xs ys there back ∙ distinct_rising cmp order ys rising

-- ---- the stamps of a page

told_kept : (m : ℕ) (S : List Reference) (p : PageId)
    → told (references_from m S) p ≡ filter (is_kept m) (told S p)
told_kept m [] p = refl
told_kept m (r ∷ S) p = cases (is_kept m r.stamp) refl (is_eq (page_cmp r.page p)) refl (told_kept m S p)
  where
    cases : (b : Bool) → is_kept m r.stamp ≡ b → (c : Bool) → is_eq (page_cmp r.page p) ≡ c
        → told (references_from m S) p ≡ filter (is_kept m) (told S p)
        → told (references_from m (r ∷ S)) p ≡ filter (is_kept m) (told (r ∷ S) p)
    cases true is true here rest = rw (is, here) (rw is (ap (λ t. r.stamp ∷ t) rest))
    cases true is false other rest = rw (is, other) rest
    cases false is true here rest = rw (is, here) (rw is rest)
    cases false is false other rest = rw (is, other) rest

has_filter : {A : Type 0} (test : A → Bool) (xs : List A) (x : A) → Has xs x → test x ≡ true
    → Has (filter test xs) x
has_filter test [] x has is = has
has_filter test (y ∷ ys) x has is = elim has [
  | inl e ↦ let here : test y ≡ true = ap test e ∙ is in rw here (inl e)
  | inr later ↦ elim (test y) as (λ b. Has (cond b (y ∷ filter test ys) (filter test ys)) x) [ true ↦ inr (has_filter test ys x later is) | false ↦ has_filter test ys x later is ]
]

has_from_filter : {A : Type 0} (test : A → Bool) (xs : List A) (x : A) → Has (filter test xs) x
    → Has xs x × (test x ≡ true)
has_from_filter test [] x has = absurd has
has_from_filter test (y ∷ ys) x has = cases (test y) refl (has_from_filter test ys x)
  where
    cases : (b : Bool) → test y ≡ b → (Has (filter test ys) x → Has ys x × (test x ≡ true))
        → Has (y ∷ ys) x × (test x ≡ true)
    cases true is rest = elim (rw is at has) [ inl e ↦ (inl e, ap test (sym e) ∙ is) | inr later ↦ (inr (rest later).0, (rest later).1) ]
    cases false is rest = let there = rest (rw is at has) in (inr there.0, there.1)

distinct-filter : {A : Type 0} (cmp : A → A → Ordering) (order : IsStrictOrder cmp)
    (test : A → Bool) (xs : List A) → distinct cmp (filter test xs) ≡ filter test (distinct cmp xs)
distinct-filter cmp order test xs = distinct_is cmp order (filter test xs) (filter test (distinct cmp xs))
    (rising_filter cmp test (distinct cmp xs) (distinct_rises cmp order xs))
    (λ x has. let from = has_from_filter test xs x has in has_filter test (distinct cmp xs) x (has_distinct cmp order xs x from.0) from.1)
    (λ x has. let from = has_from_filter test (distinct cmp xs) x has in has_filter test xs x (has_from_distinct cmp order xs x from.0) from.1)

-- ---- the two latest of them

-- with a stamp all older ones are forgotten
pub older_forgotten : (m : ℕ) (a b : Stamp) → stamp_cmp b a ≡ Less → is_kept m a ≡ false
    → is_kept m b ≡ false
older_forgotten m a b less old = by_cases (nat_cmp b.time a.time) _
    (λ lt. grind (arith, nat_tests))
    (λ tied. grind (arith, nat_tests))
    (λ more. let no : Greater ≡ Less = rw more at less in absurd (cc))

all_forgotten : (m : ℕ) (a : Stamp) (ss : List Stamp)
    → AllByRecursion (λ b. flip_args stamp_cmp a b ≡ Less) ss → is_kept m a ≡ false
    → filter (is_kept m) ss ≡ []
all_forgotten m a [] below old = refl
all_forgotten m a (b ∷ ss) below old = let gone : is_kept m b ≡ false = older_forgotten m a b below.0 old in rw gone (all_forgotten m a ss below.1 old)

first_two_kept : (m : ℕ) (ss : List Stamp) → IsAscending (flip_args stamp_cmp) ss
    → first_two (filter (is_kept m) ss) ≡ option_and_then (kept_hist m) (first_two ss)
first_two_kept m [] falls = refl
first_two_kept m (a ∷ []) falls = elim (is_kept m a) as (λ b. first_two (cond b (a ∷ []) []) ≡ cond b (Some (Once a)) None) [ true ↦ refl | false ↦ refl ]
first_two_kept m (a ∷ b ∷ ss) falls = cases (is_kept m a) refl (is_kept m b) refl
  where
    cases : (x : Bool) → is_kept m a ≡ x → (y : Bool) → is_kept m b ≡ y
        → first_two (filter (is_kept m) (a ∷ b ∷ ss))
        ≡ cond (is_kept m a) (Some
        (cond (is_kept m b) (Twice (record { last = a; prev = b })) (Once a))) None
    cases true ka true kb = rw (ka, kb) refl
    cases true ka false kb = let none : filter (is_kept m) ss ≡ [] = all_forgotten m b ss falls.1.0 kb in rw (ka, kb, none) refl
    cases false ka true kb = let no : true ≡ false = sym kb ∙ older_forgotten m a b falls.0.0 ka in absurd (cc)
    cases false ka false kb = let none : filter (is_kept m) ss ≡ [] = all_forgotten m b ss falls.1.0 kb in rw (ka, kb, none) refl

-- what a list keeps of a page
pub hist-kept : (m : ℕ) (S : List Reference) (p : PageId)
    → list_hist (references_from m S) p ≡ option_and_then (kept_hist m) (list_hist S p)
hist-kept m S p =
    let falls = flip_args stamp_cmp in
    let order = IsStrictOrder-flip stamp_cmp stamp_order in
    ap (λ ss. first_two (distinct falls ss)) (told_kept m S p)
    ∙ ap first_two (distinct-filter falls order (is_kept m) (told S p))
    ∙ first_two_kept m (list_stamps S p) (distinct_rises falls order (told S p))

-- lists that agree on each page keep the same
pub kept_alike : (m : ℕ) (S T : List Reference) → ((p : PageId) → list_hist S p ≡ list_hist T p)
    → (p : PageId) → list_hist (references_from m S) p ≡ list_hist (references_from m T) p
kept_alike m S T alike p = hist-kept m S p ∙ ap (option_and_then (kept_hist m)) (alike p) ∙ sym (hist-kept m T p)

-- ---- the references of entries that aren't older than the horizon

entry_kept : (m : ℕ) (p : PageId) (h : PageHist)
    → AllByRecursion (λ s. is_kept m s ≡ true) (hist_stamps h)
    → references_from m (references_of_entry (record { page = p; hist = h }))
    ≡ references_of_entry (record { page = p; hist = h })
entry_kept m p (Once last) all = let here : is_kept m last ≡ true = all.0 in rw here refl
entry_kept m p (Twice two) all = let here : is_kept m two.last ≡ true = all.0 in let there : is_kept m two.prev ≡ true = all.1.0 in rw (here, there) refl

pub kept_refs : (m : ℕ) (es : List Entry)
    → AllByRecursion (λ e. AllByRecursion (λ s. is_kept m s ≡ true) (hist_stamps e.hist)) es
    → references_from m (list_references_of es) ≡ list_references_of es
kept_refs m [] all = refl
kept_refs m (e ∷ es) all =
    kept-append m (references_of_entry e) (list_references_of es)
    ∙ ap (λ t. t ++ references_from m (list_references_of es)) (entry_kept m e.page e.hist all.0)
    ∙ ap (λ t. references_of_entry e ++ t) (kept_refs m es all.1)

some_same : {A : Type 0} (x y : A) → Some x ≡ Some y → x ≡ y
some_same x y e = cc

-- entries of which no stamp is older than the horizon are all left, as they are
pub entries_recent : (m : ℕ) (es : List Entry)
    → AllByRecursion (λ e. AllByRecursion (λ s. is_kept m s ≡ true) (hist_stamps e.hist)) es
    → kept_entries m es ≡ es
entries_recent m [] all = refl
entries_recent m (e ∷ es) all = cases e.page e.hist all.0 (entries_recent m es all.1)
  where
    cases : (p : PageId) (h : PageHist) → AllByRecursion (λ s. is_kept m s ≡ true) (hist_stamps h)
        → kept_entries m es ≡ es
        → kept_entries m (record { page = p; hist = h } ∷ es) ≡ record { page = p; hist = h } ∷ es
    cases p (Once s) is rest = let here : is_kept m s ≡ true = is.0 in rw here (ap (λ t. record { page = p; hist = Once s } ∷ t) rest)
    cases p (Twice t) is rest =
        let here : is_kept m t.last ≡ true = is.0 in
        let there : is_kept m t.prev ≡ true = is.1.0 in
        rw (here, there) (ap (λ x. record { page = p; hist = Twice t } ∷ x) rest)

-- the references of a page's stamps that aren't older than the horizon are those of the stamps that
-- aren't
pub recent_entry : (m : ℕ) (p : PageId) (ss : List Stamp)
    → references_from m (map (λ s. record { page = p; stamp = s }) ss)
    ≡ map (λ s. record { page = p; stamp = s }) (filter (is_kept m) ss)
recent_entry m p [] = refl
recent_entry m p (s ∷ ss) = cases (is_kept m s) (recent_entry m p ss)
  where
    cases : (b : Bool) → references_from m (map (λ s. record { page = p; stamp = s }) ss)
        ≡ map (λ s. record { page = p; stamp = s }) (filter (is_kept m) ss)
        → cond b (record { page = p; stamp = s }
        ∷ references_from m (map (λ s. record { page = p; stamp = s }) ss))
        (references_from m (map (λ s. record { page = p; stamp = s }) ss))
        ≡ map (λ s. record { page = p; stamp = s })
        (cond b (s ∷ filter (is_kept m) ss) (filter (is_kept m) ss))
    cases true rest = ap (λ t. record { page = p; stamp = s } ∷ t) rest
    cases false rest = rest

-- what is kept of a page's history is not older than the horizon
pub none_older : (m : ℕ) (h : PageHist) (x : Option PageHist)
    → option_and_then (kept_hist m) x ≡ Some h
    → AllByRecursion (λ s. is_kept m s ≡ true) (hist_stamps h)
none_older m h None is = let no : None ≡ Some h = is in absurd (cc)
none_older m h (Some (Once s)) is = cases (is_kept m s) refl
  where
    cases : (b : Bool) → is_kept m s ≡ b → AllByRecursion (λ s. is_kept m s ≡ true) (hist_stamps h)
    cases true k = let same : Once s ≡ h = some_same _ _ (rw k at is) in subst (λ g. AllByRecursion (λ s. is_kept m s ≡ true) (hist_stamps g)) same (k, tt)
    cases false k = let no : None ≡ Some h = rw k at is in absurd (cc)
none_older m h (Some (Twice t)) is = cases (is_kept m t.last) refl (is_kept m t.prev) refl
  where
    cases : (b : Bool) → is_kept m t.last ≡ b → (c : Bool) → is_kept m t.prev ≡ c
        → AllByRecursion (λ s. is_kept m s ≡ true) (hist_stamps h)
    cases true kl true kp = let same : Twice t ≡ h = some_same _ _ (rw (kl, kp) at is) in subst (λ g. AllByRecursion (λ s. is_kept m s ≡ true) (hist_stamps g)) same (kl, (kp, tt))
    cases true kl false kp = let same : Once t.last ≡ h = some_same _ _ (rw (kl, kp) at is) in subst (λ g. AllByRecursion (λ s. is_kept m s ≡ true) (hist_stamps g)) same (kl, tt)
    cases false kl c kp = let no : None ≡ Some h = rw kl at is in absurd (cc)

-- what is true of each page's history is true of those of all entries
pub all_entries : (P : PageHist → Type 0) (f : PageId → Option PageHist)
    → ((p : PageId) (h : PageHist) → f p ≡ Some h → P h) → (ps : List PageId)
    → AllByRecursion (λ e. P e.hist) (entries f ps)
all_entries P f each [] = tt
all_entries P f each (q ∷ qs) = cases (f q) refl (all_entries P f each qs)
  where
    cases : (x : Option PageHist) → f q ≡ x → AllByRecursion (λ e. P e.hist) (entries f qs)
        → AllByRecursion (λ (e : Entry). P e.hist)
        (cons_option (option_map (λ h. record { page = q; hist = h }) (f q)) (entries f qs))
    cases None is rest = rw is rest
    cases (Some h) is rest = rw is (each q h is, rest)

-- ---- what is left of a history's entries

entries-kept : (m : ℕ) (f : PageId → Option PageHist) (ps : List PageId)
    → kept_entries m (entries f ps) ≡ entries (λ p. option_and_then (kept_hist m) (f p)) ps
entries-kept m f [] = refl
entries-kept m f (q ∷ qs) = cases (f q) (entries-kept m f qs)
  where
    some : (h : PageHist) (b : Bool)
        → kept_entries m (entries f qs) ≡ entries (λ p. option_and_then (kept_hist m) (f p)) qs
        → map (shortened_entry m)
        (cond b (record { page = q; hist = h }
        ∷ filter (λ (e : Entry). is_recent m e.hist) (entries f qs))
        (filter (λ (e : Entry). is_recent m e.hist) (entries f qs)))
        ≡ cons_option (option_map (λ h. record { page = q; hist = h })
        (cond b (Some (shortened m h)) None))
        (entries (λ p. option_and_then (kept_hist m) (f p)) qs)
    some h true rest = ap (λ t. record { page = q; hist = shortened m h } ∷ t) rest
    some h false rest = rest

    cases : (x : Option PageHist)
        → kept_entries m (entries f qs) ≡ entries (λ p. option_and_then (kept_hist m) (f p)) qs
        → kept_entries m (cons_option (option_map (λ h. record { page = q; hist = h }) x)
        (entries f qs)) ≡ cons_option
        (option_map (λ h. record { page = q; hist = h }) (option_and_then (kept_hist m) x))
        (entries (λ p. option_and_then (kept_hist m) (f p)) qs)
    cases None rest = rest
    cases (Some h) rest = some h (is_recent m h) rest

-- what is left of the history of a list is the history of what the list keeps
pub history-kept : (m : ℕ) (S : List Reference)
    → kept_entries m (list_history S) ≡ list_history (references_from m S)
unfolding list_history
history-kept m S =
    let f : PageId → Option PageHist = λ p. option_and_then (kept_hist m) (list_hist S p) in
    entries-kept m (list_hist S) (list_pages S)
    ∙ same_gets (entries f (list_pages S)) (list_history (references_from m S)) (rising_entries f (list_pages S) (distinct_rises page_cmp page_order (map (λ r. r.page) S))) (IsHistory-history (references_from m S)).pages_ascend (λ p.
    get_entries f (list_pages S) p
    ∙ ap (λ b. cond b (f p) None) (named-distinct (map (λ (r : Reference). r.page) S) p ∙ named-some S p)
    ∙ nothing_more (list_hist S p)
    ∙ sym (hist-kept m S p)
    ∙ sym (get-history (references_from m S) p))
  where
    nothing_more : (x : Option PageHist)
        → cond (is_some x) (option_and_then (kept_hist m) x) None ≡ option_and_then (kept_hist m) x
    nothing_more None = refl
    nothing_more (Some h) = refl
