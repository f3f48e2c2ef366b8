-- Entries put into page order: what they hold of each page is unchanged.
use Rattle.std.proofs.Common.{◌≡◌, Bool, true, false, cond, List, [], ◌∷◌, filter, subst, sym, ap, refl, ◌∙◌, Some, None, arith}
use Rattle.std.specs.List.{AllByRecursion}
use Rattle.std.specs.Ordering.{is_eq}
use Rattle.std.specs.List.Sorted.{IsPermutation}
use Rattle.std.specs.declared.cmp.Ordering.TheVariants.{Less, Equal, Greater}
use Rattle.std.proofs.lemmas.Cmp.{tied_itself}
use Rattle.std.proofs.lemmas.List.Sorted.{IsPermutation-refl, IsPermutation-trans, IsPermutation-cons, IsPermutation-swap}
use Rattle.warm_stamps.specs.declared.PageId.{PageId}
use Rattle.warm_stamps.specs.Stamps.{page_cmp}
use Rattle.warm_stamps.proofs.DistinctLemmas.{is_equal, by_cases, flipped}
use Rattle.warm_stamps.proofs.StampLemmas.{page_order}
use Rattle.warm_maps.specs.declared.hist.Entry.{Entry}
use Rattle.warm_history.specs.ListHistories.{IsDescending, PagesAscend, IsListHistory}
use Rattle.warm_history.specs.maps.KeptPairs.{put_in, in_page_order}
use Rattle.warm_history.proofs.ListHistoryLemmas.{get, either_way, AllAbove, above_less}

-- two pages that both equal a third are equal
pub both_same : (p q r : PageId) → is_eq (page_cmp p r) ≡ true → is_eq (page_cmp q r) ≡ true
    → page_cmp p q ≡ Equal
both_same p q r first second =
    let here : p ≡ r = page_order.same p r (is_equal (page_cmp p r) first) in
    let there : q ≡ r = page_order.same q r (is_equal (page_cmp q r) second) in
    ap (page_cmp p) (there ∙ sym here) ∙ tied_itself page_order.total p

-- what two entries of different pages, in either order, hold of a page
pub either_first : {A : Type 0} (a b : Bool) (x y z : A) → (a ≡ true → b ≡ true → x ≡ y)
    → cond a x (cond b y z) ≡ cond b y (cond a x z)
either_first true true x y z same = same refl refl
either_first true false x y z same = refl
either_first false true x y z same = refl
either_first false false x y z same = refl

covered : {A : Type 0} (a b : Bool) (x y z : A) → a ≡ b → cond a x z ≡ cond a x (cond b y z)
covered true b x y z same = refl
covered false true x y z same = absurd (cc)
covered false false x y z same = refl

pub get-put_in : (e : Entry) (h : List Entry) (q : PageId)
    → get (put_in e h) q ≡ cond (is_eq (page_cmp e.page q)) (Some e.hist) (get h q)
get-put_in e [] q = refl
get-put_in e (x ∷ h) q = by_cases (page_cmp e.page x.page) _
    (λ less. rw less refl)
    (λ tied.
    let same : e.page ≡ x.page = page_order.same e.page x.page tied in
    rw tied (covered (is_eq (page_cmp e.page q)) (is_eq (page_cmp x.page q)) (Some e.hist) (Some x.hist) (get h q) (ap (λ p. is_eq (page_cmp p q)) same)))
    (λ more. rw more (
    ap (cond (is_eq (page_cmp x.page q)) (Some x.hist)) (get-put_in e h q)
    ∙ either_first (is_eq (page_cmp x.page q)) (is_eq (page_cmp e.page q)) (Some x.hist) (Some e.hist) (get h q)
    (λ xq eq. let no : Greater ≡ Equal = sym more ∙ both_same e.page x.page q eq xq in absurd (cc))))

pub get-in_order : (es : List Entry) (q : PageId) → get (in_page_order es) q ≡ get es q
get-in_order [] q = refl
get-in_order (e ∷ es) q = get-put_in e (in_page_order es) q ∙ ap (cond (is_eq (page_cmp e.page q)) (Some e.hist)) (get-in_order es q)

-- ---- the order

above_put_in : (p : PageId) (e : Entry) (h : List Entry) → page_cmp p e.page ≡ Less → AllAbove p h
    → AllAbove p (put_in e h)
above_put_in p e [] less all = (less, tt)
above_put_in p e (x ∷ h) less all = by_cases (page_cmp e.page x.page) _
    (λ ex. rw ex (less, all))
    (λ ex. rw ex (less, all.1))
    (λ ex. rw ex (all.0, above_put_in p e h less all.1))

rising_put_in : (e : Entry) (h : List Entry) → PagesAscend h → PagesAscend (put_in e h)
rising_put_in e [] rising = (tt, tt)
rising_put_in e (x ∷ h) rising = by_cases (page_cmp e.page x.page) _
    (λ ex. rw ex ((ex, above_less e.page x.page h ex rising.0), rising))
    (λ ex. let same : x.page ≡ e.page = sym (page_order.same e.page x.page ex) in rw ex (subst (λ p. AllAbove p h) same rising.0, rising.1))
    (λ ex. rw ex (above_put_in x.page e h (flipped page_cmp page_order e.page x.page Greater ex) rising.0, rising_put_in e h rising.1))

pub in_order_rises : (es : List Entry) → PagesAscend (in_page_order es)
in_order_rises [] = tt
in_order_rises (e ∷ es) = rising_put_in e (in_page_order es) (in_order_rises es)

falling_put_in : (e : Entry) (h : List Entry) → IsDescending e.hist
    → AllByRecursion (λ (x : Entry). IsDescending x.hist) h
    → AllByRecursion (λ (x : Entry). IsDescending x.hist) (put_in e h)
falling_put_in e [] fall all = (fall, tt)
falling_put_in e (x ∷ h) fall all = by_cases (page_cmp e.page x.page) _
    (λ ex. rw ex (fall, all))
    (λ ex. rw ex (fall, all.1))
    (λ ex. rw ex (all.0, falling_put_in e h fall all.1))

falling_in_order : (es : List Entry) → AllByRecursion (λ (x : Entry). IsDescending x.hist) es
    → AllByRecursion (λ (x : Entry). IsDescending x.hist) (in_page_order es)
falling_in_order [] all = tt
falling_in_order (e ∷ es) all = falling_put_in e (in_page_order es) all.0 (falling_in_order es all.1)

-- entries whose stamps fall are a history once they are in page order
pub IsHistory-in_order : (es : List Entry) → AllByRecursion (λ (x : Entry). IsDescending x.hist) es
    → IsListHistory (in_page_order es)
IsHistory-in_order es all = record { pages_ascend = in_order_rises es; stamps_descend = falling_in_order es all }

-- ---- the same entries

permuted_put_in : (e : Entry) (h : List Entry) → get h e.page ≡ None
    → IsPermutation (e ∷ h) (put_in e h)
permuted_put_in e [] none = IsPermutation-refl (e ∷ [])
permuted_put_in e (x ∷ h) none = by_cases (page_cmp e.page x.page) _
    (λ ex. rw ex (IsPermutation-refl (e ∷ x ∷ h)))
    (λ ex.
    let same : x.page ≡ e.page = sym (page_order.same e.page x.page ex) in
    let own : is_eq (page_cmp x.page e.page) ≡ true = ap (λ p. is_eq (page_cmp p e.page)) same ∙ ap is_eq (tied_itself page_order.total e.page) in
    let no : Some x.hist ≡ None = sym (ap (λ b. cond b (Some x.hist) (get h e.page)) own) ∙ none in
    absurd (cc))
    (λ ex.
    let other : is_eq (page_cmp x.page e.page) ≡ false = ap is_eq (flipped page_cmp page_order e.page x.page Greater ex) in
    let later : get h e.page ≡ None = sym (ap (λ b. cond b (Some x.hist) (get h e.page)) other) ∙ none in
    rw ex (IsPermutation-trans (e ∷ x ∷ h) (x ∷ e ∷ h) (x ∷ put_in e h)
    (IsPermutation-swap (e ∷ x ∷ h) (x ∷ e ∷ h) 0 1 (omega arith) (omega arith) refl)
    (IsPermutation-cons x (e ∷ h) (put_in e h) (permuted_put_in e h later))))

-- no page is named twice
abbrev pub PagesDiffer : List Entry → Type 0
PagesDiffer [] = Unit {0}
PagesDiffer (e ∷ es) = (get es e.page ≡ None) × PagesDiffer es

-- page order changes only the positions of entries, if no two are of one page
pub permuted_in_order : (es : List Entry) → PagesDiffer es → IsPermutation es (in_page_order es)
permuted_in_order [] differ = IsPermutation-refl []
permuted_in_order (e ∷ es) differ = IsPermutation-trans (e ∷ es) (e ∷ in_page_order es) (put_in e (in_page_order es))
    (IsPermutation-cons e es (in_page_order es) (permuted_in_order es differ.1))
    (permuted_put_in e (in_page_order es) (get-in_order es e.page ∙ differ.0))

-- ---- entries of chosen pages

pub get-filter : (test : PageId → Bool) (h : List Entry) (q : PageId)
    → get (filter (λ e. test e.page) h) q ≡ cond (test q) (get h q) None
get-filter test [] q = sym (either_way (test q) None)
get-filter test (e ∷ h) q = cases (test e.page) (is_eq (page_cmp e.page q)) refl refl (get-filter test h q)
  where
    cases : (t b : Bool) → test e.page ≡ t → is_eq (page_cmp e.page q) ≡ b
        → get (filter (λ (x : Entry). test x.page) h) q ≡ cond (test q) (get h q) None
        → get (cond (test e.page) (e ∷ filter (λ (x : Entry). test x.page) h)
        (filter (λ (x : Entry). test x.page) h)) q
        ≡ cond (test q) (cond (is_eq (page_cmp e.page q)) (Some e.hist) (get h q)) None
    cases true true is here rest =
        let same : e.page ≡ q = page_order.same e.page q (is_equal (page_cmp e.page q) here) in
        let passed : test q ≡ true = ap test (sym same) ∙ is in
        rw is (rw here (rw passed refl))
    cases true false is other rest = rw is (rw other rest)
    cases false true is here rest =
        let same : e.page ≡ q = page_order.same e.page q (is_equal (page_cmp e.page q) here) in
        let failed : test q ≡ false = ap test (sym same) ∙ is in
        rw is (rest ∙ rw failed refl)
    cases false false is other rest = rw is (rw other rest)
