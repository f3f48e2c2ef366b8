-- A history is known by what it says of each page.
use Rattle.std.proofs.Common.{◌≡◌, Bool, true, false, cond, is_some, List, [], ◌∷◌, ◌++◌, map, sym, ap, refl, ◌∙◌, Option, Some, None, inl, inr}
use Rattle.std.specs.List.{filter_map, cons_option, AllByRecursion}
use Rattle.std.specs.Option.{option_map}
use Rattle.std.specs.Ordering.{is_eq, on, flip_args}
use Rattle.std.specs.declared.cmp.Ordering.{Ordering}
use Rattle.std.specs.declared.cmp.Ordering.TheVariants.{Less, Equal, Greater}
use Rattle.std.proofs.lemmas.Cmp.{tied_itself}
use Rattle.std.proofs.lemmas.List.{append-nil, map-append}
use Rattle.std.proofs.lemmas.List.Elements.{filter-append}
use Rattle.std.proofs.lemmas.Option.{same_Some}
use Rattle.warm_stamps.specs.declared.Stamp.{Stamp}
use Rattle.warm_stamps.specs.declared.PageId.{PageId}
use Rattle.warm_stamps.specs.declared.Reference.{Reference}
use Rattle.warm_stamps.specs.Stamps.{stamp_cmp, page_cmp}
use Rattle.warm_stamps.specs.Distinct.{insert_distinct, distinct, IsAscending}
use Rattle.warm_stamps.proofs.DistinctLemmas.{is_equal, Has, by_cases, flipped, distinct_same, distinct_swap, distinct_rises}
use Rattle.warm_stamps.proofs.StampLemmas.{stamp_order, page_order, IsStrictOrder-flip}
use Rattle.warm_maps.specs.declared.hist.PageHist.{PageHist}
use Rattle.warm_maps.specs.declared.hist.PageHist.TheVariants.{Once, Twice}
use Rattle.warm_maps.specs.declared.hist.Entry.{Entry}
use Rattle.warm_history.specs.ListHistories.{list_references_to, list_stamps, first_two, list_hist, list_pages, list_history, hist_stamps, known_stamps, references_of_entry, list_references_of, IsDescending, IsListHistory}
use Rattle.warm_maps.proofs.Lists.{front_two, front_two-both}
use Rattle.warm_maps.proofs.LatestLemmas.{IsFallingIfAny, falling_first_two, first_two-front_two, held-first_two}

-- the latest stamps that a list of entries holds of the page p
abbrev pub get : List Entry → PageId → Option PageHist
get [] p = None
get (e ∷ h) p = cond (is_eq (page_cmp e.page p)) (Some e.hist) (get h p)

-- whether the pages contain the page p
abbrev pub named : List PageId → PageId → Bool
named [] p = false
named (q ∷ qs) p = cond (is_eq (page_cmp q p)) true (named qs p)

-- the stamps that the references of S have at the page p
abbrev pub told : List Reference → PageId → List Stamp
told S p = map (λ r. r.stamp) (list_references_to S p)

-- an entry for each page at which f has a value
abbrev pub entries : (PageId → Option PageHist) → List PageId → List Entry
entries f ps = filter_map (λ p. option_map (λ h. record { page = p; hist = h }) (f p)) ps

-- ---- what a list of entries made page by page holds

get_entries_other : (f : PageId → Option PageHist) (q : PageId) (qs : List PageId) (p : PageId)
    → is_eq (page_cmp q p) ≡ false → get (entries f (q ∷ qs)) p ≡ get (entries f qs) p
get_entries_other f q qs p other = elim (f q) as (λ x. get (cons_option (option_map (λ h. record { page = q; hist = h }) x) (entries f qs)) p ≡ get (entries f qs) p) [
  | None ↦ refl
  | Some h ↦ rw other refl
]

pub either_way : {A : Type 0} (b : Bool) (x : A) → cond b x x ≡ x
either_way true x = refl
either_way false x = refl

get_entries_here : (f : PageId → Option PageHist) (q : PageId) (qs : List PageId) (p : PageId)
    → is_eq (page_cmp q p) ≡ true → get (entries f qs) p ≡ cond (named qs p) (f q) None
    → get (entries f (q ∷ qs)) p ≡ f q
get_entries_here f q qs p here = elim (f q) as (λ x. get (entries f qs) p ≡ cond (named qs p) x None → get (cons_option (option_map (λ h. record { page = q; hist = h }) x) (entries f qs)) p ≡ x) [
  | None ↦ λ later. later ∙ either_way (named qs p) None
  | Some h ↦ λ later. rw here refl
]

pub get_entries : (f : PageId → Option PageHist) (ps : List PageId) (p : PageId)
    → get (entries f ps) p ≡ cond (named ps p) (f p) None
get_entries f [] p = refl
get_entries f (q ∷ qs) p = by_cases (page_cmp q p) _
    (λ less. let other : is_eq (page_cmp q p) ≡ false = ap is_eq less in get_entries_other f q qs p other ∙ rw other (get_entries f qs p))
    (λ tied.
    let here : is_eq (page_cmp q p) ≡ true = ap is_eq tied in
    let same : q ≡ p = page_order.same q p tied in
    get_entries_here f q qs p here (get_entries f qs p ∙ ap (λ x. cond (named qs p) (f x) None) (sym same)) ∙ rw here (ap f same))
    (λ more. let other : is_eq (page_cmp q p) ≡ false = ap is_eq more in get_entries_other f q qs p other ∙ rw other (get_entries f qs p))

named-insert : (q : PageId) (qs : List PageId) (p : PageId)
    → named (insert_distinct page_cmp q qs) p ≡ named (q ∷ qs) p
named-insert q [] p = refl
named-insert q (x ∷ qs) p = by_cases (page_cmp q x) _
    (λ qx. simp (qx))
    (λ qx. let same : q ≡ x = page_order.same q x qx in rw qx (rw same (elim (is_eq (page_cmp x p)) as (λ b. cond b true (named qs p) ≡ cond b true (cond b true (named qs p))) [ true ↦ refl | false ↦ refl ])))
    (λ qx. rw qx (rw (named-insert q qs p) (swap (is_eq (page_cmp x p)) (is_eq (page_cmp q p)) (named qs p))))
  where
    swap : (a b c : Bool) → cond a true (cond b true c) ≡ cond b true (cond a true c)
    swap true true c = refl
    swap true false c = refl
    swap false true c = refl
    swap false false c = refl

pub named-distinct : (ps : List PageId) (p : PageId) → named (distinct page_cmp ps) p ≡ named ps p
named-distinct [] p = refl
named-distinct (q ∷ qs) p = named-insert q (distinct page_cmp qs) p ∙ ap (cond (is_eq (page_cmp q p)) true) (named-distinct qs p)

references_to-unnamed : (S : List Reference) (p : PageId) → named (map (λ r. r.page) S) p ≡ false
    → list_references_to S p ≡ []
references_to-unnamed [] p absent = refl
references_to-unnamed (r ∷ S) p absent = cases (references_to-unnamed S p) (is_eq (page_cmp r.page p)) refl
  where
    cases : (named (map (λ r. r.page) S) p ≡ false → list_references_to S p ≡ []) → (b : Bool)
        → is_eq (page_cmp r.page p) ≡ b → list_references_to (r ∷ S) p ≡ []
    cases rest true here = let no : true ≡ false = rw here at absent in cc
    cases rest false other = rw other (rest (rw other at absent))

-- what a history says of a page
pub get-history : (S : List Reference) (p : PageId) → get (list_history S) p ≡ list_hist S p
unfolding list_history
get-history S p = get_entries (list_hist S) (list_pages S) p ∙ cases (named (list_pages S) p) refl
  where
    cases : (b : Bool) → named (list_pages S) p ≡ b
        → cond (named (list_pages S) p) (list_hist S p) None ≡ list_hist S p
    cases true present = rw present refl
    cases false absent =
        let none : list_references_to S p ≡ [] = references_to-unnamed S p (sym (named-distinct (map (λ r. r.page) S) p) ∙ absent) in
        rw absent (ap (λ rs. first_two (distinct (flip_args stamp_cmp) (map (λ r. r.stamp) rs))) (sym none))

-- ---- the order of a history

pub below_entries : (f : PageId → Option PageHist) (b : PageId) (ps : List PageId)
    → AllByRecursion (λ p. page_cmp b p ≡ Less) ps
    → AllByRecursion (λ e. page_cmp b e.page ≡ Less) (entries f ps)
below_entries f b [] all = tt
below_entries f b (q ∷ qs) all = elim (f q) as (λ x. AllByRecursion (λ e. page_cmp b e.page ≡ Less) (cons_option (option_map (λ h. record { page = q; hist = h }) x) (entries f qs))) [
  | None ↦ below_entries f b qs all.1
  | Some h ↦ (all.0, below_entries f b qs all.1)
]

pub rising_entries : (f : PageId → Option PageHist) (ps : List PageId) → IsAscending page_cmp ps
    → IsAscending (on (λ e. e.page) page_cmp) (entries f ps)
rising_entries f [] rising = tt
rising_entries f (q ∷ qs) rising = elim (f q) as (λ x. IsAscending (on (λ e. e.page) page_cmp) (cons_option (option_map (λ h. record { page = q; hist = h }) x) (entries f qs))) [
  | None ↦ rising_entries f qs rising.1
  | Some h ↦ (below_entries f q qs rising.0, rising_entries f qs rising.1)
]

falling_entries : (f : PageId → Option PageHist) → ((p : PageId) → IsFallingIfAny (f p))
    → (ps : List PageId) → AllByRecursion (λ e. IsDescending e.hist) (entries f ps)
falling_entries f falls [] = tt
falling_entries f falls (q ∷ qs) = elim (f q) as (λ x. IsFallingIfAny x → AllByRecursion (λ e. IsDescending e.hist) (cons_option (option_map (λ h. record { page = q; hist = h }) x) (entries f qs))) [
  | None ↦ λ _. falling_entries f falls qs
  | Some h ↦ λ fall. (fall, falling_entries f falls qs)
] (falls q)

-- what is true of every history is true of the history of any list
pub IsHistory-history : (S : List Reference) → IsListHistory (list_history S)
unfolding list_history
IsHistory-history S = record {
  pages_ascend = rising_entries (list_hist S) (list_pages S) (distinct_rises page_cmp page_order (map (λ r. r.page) S));
  stamps_descend = falling_entries (list_hist S) (λ p. falling_first_two (list_stamps S p) (distinct_rises (flip_args stamp_cmp) (IsStrictOrder-flip stamp_cmp stamp_order) (told S p))) (list_pages S);
}

-- ---- two histories that agree on each page are equal

abbrev pub AllAbove : PageId → List Entry → Type 0
AllAbove p h = AllByRecursion (λ e. page_cmp p e.page ≡ Less) h

pub get_above : (p : PageId) (h : List Entry) → AllAbove p h → get h p ≡ None
get_above p [] above = refl
get_above p (e ∷ h) above = let other : is_eq (page_cmp e.page p) ≡ false = ap is_eq (flipped page_cmp page_order p e.page Less above.0) in rw other (get_above p h above.1)

pub above_less : (p q : PageId) (h : List Entry) → page_cmp p q ≡ Less → AllAbove q h → AllAbove p h
above_less p q [] less above = tt
above_less p q (e ∷ h) less above = (page_order.total.trans p q e.page less above.0, above_less p q h less above.1)

pub get_first : (e : Entry) (h : List Entry) (p : PageId) → e.page ≡ p → get (e ∷ h) p ≡ Some e.hist
get_first e h p here = let own : is_eq (page_cmp e.page p) ≡ true = ap (λ q. is_eq (page_cmp e.page q)) (sym here) ∙ ap is_eq (tied_itself page_order.total e.page) in rw own refl

-- without the first entry, the later ones agree on each page
get_later : (d e : Entry) (h g : List Entry) → d.page ≡ e.page → AllAbove d.page h
    → AllAbove e.page g → ((p : PageId) → get (d ∷ h) p ≡ get (e ∷ g) p) → (p : PageId)
    → get h p ≡ get g p
get_later d e h g same above_d above_e alike p = cases (is_eq (page_cmp d.page p)) refl
  where
    cases : (b : Bool) → is_eq (page_cmp d.page p) ≡ b → get h p ≡ get g p
    cases true here =
        let tied : d.page ≡ p = page_order.same d.page p (is_equal (page_cmp d.page p) here) in
        ap (get h) (sym tied) ∙ get_above d.page h above_d ∙ sym (get_above e.page g above_e) ∙ ap (get g) (sym same ∙ tied)
    cases false other =
        let other_e : is_eq (page_cmp e.page p) ≡ false = ap (λ q. is_eq (page_cmp q p)) (sym same) ∙ other in
        let both = alike p in
        rw (other, other_e) at both

pub same_gets : (h g : List Entry) → IsAscending (on (λ e. e.page) page_cmp) h
    → IsAscending (on (λ e. e.page) page_cmp) g → ((p : PageId) → get h p ≡ get g p) → h ≡ g
same_gets [] [] rise_h rise_g alike = refl
same_gets [] (e ∷ g) rise_h rise_g alike = let no : None ≡ Some e.hist = alike e.page ∙ get_first e g e.page refl in absurd (cc)
same_gets (d ∷ h) [] rise_h rise_g alike = let no : Some d.hist ≡ None = sym (get_first d h d.page refl) ∙ alike d.page in absurd (cc)
same_gets (d ∷ h) (e ∷ g) rise_h rise_g alike = by_cases (page_cmp d.page e.page) _
    (λ less. let no : Some d.hist ≡ None = sym (get_first d h d.page refl) ∙ alike d.page ∙ get_above d.page (e ∷ g) (less, above_less d.page e.page g less rise_g.0) in absurd (cc))
    (λ tied.
    let same : d.page ≡ e.page = page_order.same d.page e.page tied in
    let hists : d.hist ≡ e.hist = same_Some _ _ (sym (get_first d h d.page refl) ∙ alike d.page ∙ get_first e g d.page (sym same)) in
    let later : h ≡ g = same_gets h g rise_h.1 rise_g.1 (get_later d e h g same rise_h.0 rise_g.0 alike) in
    let first : d ≡ e = λ i. record { page = same i; hist = hists i } in
    cc)
    (λ more. let less : page_cmp e.page d.page ≡ Less = flipped page_cmp page_order d.page e.page Greater more in let no : None ≡ Some e.hist = sym (get_above e.page (d ∷ h) (less, above_less e.page d.page h less rise_h.0)) ∙ alike e.page ∙ get_first e g e.page refl in absurd (cc))

-- lists that agree on each page have one history
pub same_hists : (S T : List Reference) → ((p : PageId) → list_hist S p ≡ list_hist T p)
    → list_history S ≡ list_history T
same_hists S T alike =
    let whole_S = IsHistory-history S in
    let whole_T = IsHistory-history T in
    same_gets _ _ whole_S.pages_ascend whole_T.pages_ascend (λ p. get-history S p ∙ alike p ∙ sym (get-history T p))

-- ---- the references that a history holds

pub told-append : (S T : List Reference) (p : PageId) → told (S ++ T) p ≡ told S p ++ told T p
told-append S T p = ap (map (λ r. r.stamp)) (filter-append (λ r. is_eq (page_cmp r.page p)) S T) ∙ map-append (λ r. r.stamp) (list_references_to S p) (list_references_to T p)

pub told_entry : (page : PageId) (h : PageHist) (p : PageId)
    → told (references_of_entry (record { page = page; hist = h })) p
    ≡ cond (is_eq (page_cmp page p)) (hist_stamps h) []
told_entry page (Once s) p =
    let r : Reference = record { page = page; stamp = s } in
    elim (is_eq (page_cmp page p)) as (λ b. map (λ (r : Reference). r.stamp) (cond b (r ∷ []) []) ≡ cond b (s ∷ []) []) [ true ↦ refl | false ↦ refl ]
told_entry page (Twice t) p =
    let r : Reference = record { page = page; stamp = t.last } in
    let older : Reference = record { page = page; stamp = t.prev } in
    elim (is_eq (page_cmp page p)) as (λ b. map (λ (r : Reference). r.stamp) (cond b (r ∷ cond b (older ∷ []) []) (cond b (older ∷ []) [])) ≡ cond b (t.last ∷ t.prev ∷ []) []) [ true ↦ refl | false ↦ refl ]

pub told_refs : (h : List Entry) → IsAscending (on (λ e. e.page) page_cmp) h → (p : PageId)
    → told (list_references_of h) p ≡ known_stamps (get h p)
told_refs [] rising p = refl
told_refs (e ∷ h) rising p =
    told-append (references_of_entry e) (list_references_of h) p
    ∙ ap (λ ss. ss ++ told (list_references_of h) p) (told_entry e.page e.hist p)
    ∙ ap (λ ss. cond (is_eq (page_cmp e.page p)) (hist_stamps e.hist) [] ++ ss) (told_refs h rising.1 p)
    ∙ cases (is_eq (page_cmp e.page p)) refl
  where
    cases : (b : Bool) → is_eq (page_cmp e.page p) ≡ b
        → cond (is_eq (page_cmp e.page p)) (hist_stamps e.hist) [] ++ known_stamps (get h p)
        ≡ known_stamps (cond (is_eq (page_cmp e.page p)) (Some e.hist) (get h p))
    cases true here =
        let tied : e.page ≡ p = page_order.same e.page p (is_equal (page_cmp e.page p) here) in
        rw here (ap (λ x. hist_stamps e.hist ++ known_stamps x) (ap (get h) (sym tied) ∙ get_above e.page h rising.0) ∙ append-nil (hist_stamps e.hist))
    cases false other = rw other refl

pub first_two-held : (x : Option PageHist) → IsFallingIfAny x
    → first_two (distinct (flip_args stamp_cmp) (known_stamps x)) ≡ x
first_two-held None falls = refl
first_two-held (Some (Once s)) falls = refl
first_two-held (Some (Twice t)) falls = let older : stamp_cmp t.prev t.last ≡ Less = falls in rw older refl

falling_get : (h : List Entry) → AllByRecursion (λ e. IsDescending e.hist) h → (p : PageId)
    → IsFallingIfAny (get h p)
falling_get [] falls p = tt
falling_get (e ∷ h) falls p = elim (is_eq (page_cmp e.page p)) as (λ b. IsFallingIfAny (cond b (Some e.hist) (get h p))) [ true ↦ falls.0 | false ↦ falling_get h falls.1 p ]

-- the references of a history say of each page what the history says
pub hist-refs : (h : List Entry) → IsListHistory h → (p : PageId)
    → list_hist (list_references_of h) p ≡ get h p
hist-refs h whole p =
    ap (λ ss. first_two (distinct (flip_args stamp_cmp) ss)) (told_refs h whole.pages_ascend p)
    ∙ first_two-held (get h p) (falling_get h whole.stamps_descend p)

-- what two lists say of a page together follows from what each says
abbrev pub joined : Option PageHist → Option PageHist → Option PageHist
joined a b = first_two (distinct (flip_args stamp_cmp) (known_stamps a ++ known_stamps b))

pub hist-append : (S T : List Reference) (p : PageId)
    → list_hist (S ++ T) p ≡ joined (list_hist S p) (list_hist T p)
hist-append S T p =
    let falls = flip_args stamp_cmp in
    ap (λ ss. first_two (distinct falls ss)) (told-append S T p)
    ∙ sym (first_two-front_two (distinct falls (told S p ++ told T p)))
    ∙ ap first_two (front_two-both falls (IsStrictOrder-flip stamp_cmp stamp_order) (told S p) (told T p))
    ∙ first_two-front_two (distinct falls (front_two (list_stamps S p) ++ front_two (list_stamps T p)))
    ∙ ap (λ ss. first_two (distinct falls (ss ++ front_two (list_stamps T p)))) (sym (held-first_two (list_stamps S p)))
    ∙ ap (λ ss. first_two (distinct falls (known_stamps (list_hist S p) ++ ss))) (sym (held-first_two (list_stamps T p)))

pub hist_swap : (S T : List Reference) (p : PageId) → list_hist (S ++ T) p ≡ list_hist (T ++ S) p
hist_swap S T p =
    let falls = flip_args stamp_cmp in
    ap (λ ss. first_two (distinct falls ss)) (told-append S T p)
    ∙ ap first_two (distinct_swap falls (IsStrictOrder-flip stamp_cmp stamp_order) (told S p) (told T p))
    ∙ ap (λ ss. first_two (distinct falls ss)) (sym (told-append T S p))

pub hist_refs-history : (S : List Reference) (p : PageId)
    → list_hist (list_references_of (list_history S)) p ≡ list_hist S p
hist_refs-history S p = hist-refs (list_history S) (IsHistory-history S) p ∙ get-history S p

-- ---- the pages that a list names

pub has_named : (ps : List PageId) (p : PageId) → Has ps p → named ps p ≡ true
has_named [] p has = absurd has
has_named (q ∷ qs) p has = elim has [
  | inl e ↦ let here : is_eq (page_cmp q p) ≡ true = ap (λ x. is_eq (page_cmp q x)) (sym e) ∙ ap is_eq (tied_itself page_order.total q) in rw here refl
  | inr later ↦ rw (has_named qs p later) (either_way (is_eq (page_cmp q p)) true)
]

named_has : (ps : List PageId) (p : PageId) → named ps p ≡ true → Has ps p
named_has [] p is = let no : false ≡ true = is in absurd (cc)
named_has (q ∷ qs) p is = cases (named_has qs p) (page_cmp q p) refl
  where
    cases : (named qs p ≡ true → Has qs p) → (o : Ordering) → page_cmp q p ≡ o → Has (q ∷ qs) p
    cases later Less less = inr (later (rw less at is))
    cases later Equal tied = inl (page_order.same q p tied)
    cases later Greater more = inr (later (rw more at is))

some_first : (s : Stamp) (ss : List Stamp) → is_some (first_two (s ∷ ss)) ≡ true
some_first s [] = refl
some_first s (t ∷ ss) = refl

some_inserted : (s : Stamp) (ss : List Stamp)
    → is_some (first_two (insert_distinct (flip_args stamp_cmp) s ss)) ≡ true
some_inserted s [] = refl
some_inserted s (t ∷ ss) = by_cases (flip_args stamp_cmp s t) _
    (λ less. rw less refl)
    (λ tied. rw tied (some_first t ss))
    (λ more. rw more (some_first t (insert_distinct (flip_args stamp_cmp) s ss)))

-- a list names the pages of which it says something
pub named-some : (S : List Reference) (p : PageId)
    → named (map (λ r. r.page) S) p ≡ is_some (list_hist S p)
named-some [] p = refl
named-some (r ∷ S) p = elim (is_eq (page_cmp r.page p)) as (λ b. cond b true (named (map (λ (x : Reference). x.page) S) p) ≡ is_some (first_two (distinct (flip_args stamp_cmp) (map (λ (x : Reference). x.stamp) (cond b (r ∷ list_references_to S p) (list_references_to S p)))))) [
  | true ↦ sym (some_inserted r.stamp (list_stamps S p))
  | false ↦ named-some S p
]

-- lists that agree on each page name the same pages
pub pages_alike : (S T : List Reference) → ((p : PageId) → list_hist S p ≡ list_hist T p)
    → list_pages S ≡ list_pages T
pages_alike S T alike = distinct_same page_cmp page_order _ _ (within S T alike) (within T S (λ p. sym (alike p)))
  where
    within : (S T : List Reference) → ((p : PageId) → list_hist S p ≡ list_hist T p) → (p : PageId)
        → Has (map (λ (r : Reference). r.page) S) p → Has (map (λ (r : Reference). r.page) T) p
    within S T alike p has = named_has (map (λ (r : Reference). r.page) T) p (named-some T p ∙ ap is_some (sym (alike p)) ∙ sym (named-some S p) ∙ has_named (map (λ (r : Reference). r.page) S) p has)

-- of a page that it names a list says something
pub some_named : (S : List Reference) (p : PageId) → Has (map (λ r. r.page) S) p
    → is_some (list_hist S p) ≡ true
some_named S p has = sym (named-some S p) ∙ has_named (map (λ (r : Reference). r.page) S) p has
