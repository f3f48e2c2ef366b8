-- The warm-up list from keys.
use Rattle.std.proofs.Common.{◌≡◌, ℕ, zero, suc, ◌≤◌, List, [], ◌∷◌, ◌++◌, append_assoc, length, map, take, reverse, is_some, true, false, sym, ap, refl, ◌∙◌, subst, Option, Some, None, inl, inr, arith}
use Rattle.std.specs.List.{AllByRecursion, filter_map, cons_option}
use Rattle.std.specs.List.Sorted.{IsPermutation, IsSorted}
use Rattle.std.specs.Option.{option_map}
use Rattle.std.specs.Ordering.{is_eq, flip_args}
use Rattle.std.specs.declared.cmp.Ordering.{Ordering}
use Rattle.std.specs.declared.cmp.Ordering.TheVariants.{Less, Equal}
use Rattle.std.proofs.lemmas.Cmp.{tied_itself}
use Rattle.std.proofs.lemmas.List.{take-map, length-reverse}
use Rattle.std.proofs.lemmas.List.Sorted.{IsPermutation-trans, length_permutation}
use Rattle.warm_stamps.specs.declared.PageId.{PageId}
use Rattle.warm_stamps.specs.declared.Reference.{Reference}
use Rattle.warm_stamps.specs.Stamps.{page_cmp}
use Rattle.warm_stamps.specs.Distinct.{insert_distinct, distinct, IsAscending}
use Rattle.warm_stamps.proofs.DistinctLemmas.{Has, by_cases, distinct_rises, has_from_distinct}
use Rattle.warm_stamps.proofs.StampLemmas.{page_order}
use Rattle.warm_history.specs.ReferenceSets.{ReferenceSet, references}
use Rattle.warm_history.specs.PageHist.{PageHist}
use Rattle.warm_history.specs.Histories.{hist, pages, history}
use Rattle.warm_history.proofs.HistoryLemmas.{some_named}
use Rattle.warm_rank.specs.declared.RankKey.{RankKey}
use Rattle.warm_rank.specs.Greatest.{AreGreatest}
use Rattle.warm_rank.specs.Keys.{rank_key, entry_key, key_cmp, ranked_page}
use Rattle.warm_rank.specs.Ranking.{eviction_cmp, hottest_pages}
use Rattle.warm_rank.specs.Relisting.{hottest_keys}
use Rattle.warm_rank.specs.WarmUp.{entry_keys}
use Rattle.warm_rank.proofs.KeyLemmas.{key_order, keys_order_pages, page_of-rank_key}
use Rattle.warm_rank.proofs.SortLemmas.{ties, ties-here, ties-other, HasNoTies, IsAbove, distinct-descending, above_from_split}

insert-map : {A B : Type 0} (f : A → B) (c : A → A → Ordering) (d : B → B → Ordering)
    → ((x y : A) → d (f x) (f y) ≡ c x y) → (x : A) (ys : List A)
    → insert_distinct d (f x) (map f ys) ≡ map f (insert_distinct c x ys)
insert-map f c d agree x [] = refl
insert-map f c d agree x (y ∷ ys) = by_cases (c x y) _
    (λ less. rw (agree x y, less) refl)
    (λ tied. rw (agree x y, tied) refl)
    (λ more. rw (agree x y, more) (ap (λ t. f y ∷ t) (insert-map f c d agree x ys)))

distinct-map : {A B : Type 0} (f : A → B) (c : A → A → Ordering) (d : B → B → Ordering)
    → ((x y : A) → d (f x) (f y) ≡ c x y) → (xs : List A)
    → distinct d (map f xs) ≡ map f (distinct c xs)
distinct-map f c d agree [] = refl
distinct-map f c d agree (x ∷ xs) = ap (insert_distinct d (f x)) (distinct-map f c d agree xs) ∙ insert-map f c d agree x (distinct c xs)

-- the keys of a history's entries are those of its pages
keys_of_entries : (f : PageId → Option PageHist) (ps : List PageId)
    → ((p : PageId) → Has ps p → is_some (f p) ≡ true)
    → map entry_key (filter_map (λ p. option_map (λ h. record { page = p; hist = h }) (f p)) ps)
    ≡ map (λ p. rank_key p (f p)) ps
keys_of_entries f [] some = refl
keys_of_entries f (p ∷ ps) some = go (f p) (some p (inl refl)) (keys_of_entries f ps (λ q has. some q (inr has)))
  where
    go : (x : Option PageHist) → is_some x ≡ true
        → map entry_key (filter_map (λ p. option_map (λ h. record { page = p; hist = h }) (f p)) ps)
        ≡ map (λ p. rank_key p (f p)) ps
        → map entry_key (cons_option (option_map (λ h. record { page = p; hist = h }) x)
        (filter_map (λ p. option_map (λ h. record { page = p; hist = h }) (f p)) ps))
        ≡ rank_key p x ∷ map (λ p. rank_key p (f p)) ps
    go None is later = absurd (cc)
    go (Some h) is later = ap (λ t. rank_key p (Some h) ∷ t) later

-- a page's key, by what is known of it
abbrev key_by : (PageId → Option PageHist) → PageId → RankKey
key_by f p = rank_key p (f p)

pub keys_of_pages : (S : ReferenceSet) → entry_keys (history S) ≡ map (key_by (hist S)) (pages S)
unfolding history
keys_of_pages S = keys_of_entries (hist S) (pages S) (λ p has. some_named S p (has_from_distinct page_cmp page_order (map (λ (r : Reference). r.page) (references S)) p has))

page_of-key : (f : PageId → Option PageHist) (p : PageId) → ranked_page (key_by f p) ≡ p
page_of-key f p = page_of-rank_key p (f p)

map_inverse : {A B : Type 0} (f : A → B) (g : B → A) → ((x : A) → g (f x) ≡ x) → (xs : List A)
    → map g (map f xs) ≡ xs
map_inverse f g back [] = refl
map_inverse f g back (x ∷ xs) = ap (λ y. y ∷ map g (map f xs)) (back x) ∙ ap (λ t. x ∷ t) (map_inverse f g back xs)

-- the pages of the greatest keys are the warm-up list
pub warm_from_keys : (S : ReferenceSet) (n : ℕ) → map ranked_page (hottest_keys S n) ≡ hottest_pages S n
warm_from_keys S n =
    let key = key_by (hist S) in
    ap (λ ks. map ranked_page (take n (distinct (flip_args key_cmp) ks))) (keys_of_pages S)
    ∙ ap (λ ks. map ranked_page (take n ks)) (distinct-map key (flip_args (eviction_cmp S)) (flip_args key_cmp) (λ p q. keys_order_pages S q p) (pages S))
    ∙ ap (map ranked_page) (take-map key n (distinct (flip_args (eviction_cmp S)) (pages S)))
    ∙ map_inverse key ranked_page (page_of-key (hist S)) (hottest_pages S n)

-- ---- no two keys of a history's entries tie

none_tied : (f : PageId → Option PageHist) (p : PageId) (ps : List PageId)
    → AllByRecursion (λ q. page_cmp p q ≡ Less) ps
    → ties key_cmp (key_by f p) (map (key_by f) ps) ≡ 0
none_tied f p [] above = refl
none_tied f p (q ∷ ps) above =
    let apart : is_eq (key_cmp (key_by f p) (key_by f q)) ≡ false = by_cases (key_cmp (key_by f p) (key_by f q)) _
    (λ less. ap is_eq less)
    (λ tied.
    let same : p ≡ q = sym (page_of-key f p) ∙ ap ranked_page {x = key_by f p} {y = key_by f q} (key_order.same (key_by f p) (key_by f q) tied) ∙ page_of-key f q in
    let no : Less ≡ Equal = sym above.0 ∙ ap (page_cmp p) (sym same) ∙ tied_itself page_order.total p in
    absurd (cc))
    (λ more. ap is_eq more)
    in
    ties-other key_cmp key_order (key_by f p) (key_by f q) (map (key_by f) ps) apart ∙ none_tied f p ps above.1

no_ties : (f : PageId → Option PageHist) (ps : List PageId) → IsAscending page_cmp ps
    → HasNoTies key_cmp (map (key_by f) ps)
no_ties f [] rising x = omega arith
no_ties f (p ∷ ps) rising x =
    let key : RankKey = key_by f p in
    let keys : List RankKey = map (key_by f) ps in
    by_cases (key_cmp x key) _
    (λ less. omega (arith, ties-other key_cmp key_order x key keys (ap is_eq less), no_ties f ps rising.1 x))
    (λ tied.
    let same : x ≡ key = key_order.same x key tied in
    omega (arith, ties-here key_cmp key_order x key keys tied, ap (λ k. ties key_cmp k keys) same ∙ none_tied f p ps rising.0))
    (λ more. omega (arith, ties-other key_cmp key_order x key keys (ap is_eq more), no_ties f ps rising.1 x))

history_has_no_ties : (S : ReferenceSet) → HasNoTies key_cmp (entry_keys (history S))
history_has_no_ties S = subst (HasNoTies key_cmp) (sym (keys_of_pages S)) (no_ties (hist S) (pages S) (distinct_rises page_cmp page_order (map (λ (r : Reference). r.page) (references S))))

-- ---- the warm-up list from a part of the keys, or from all, once it is sorted

first_of : {A : Type 0} (xs ys : List A) (n : ℕ) → length xs ≡ n → take n (xs ++ ys) ≡ xs
first_of xs ys n long = ap (λ m. take m (xs ++ ys)) (sym long) ∙ go xs
  where
    go : (xs : List _) → take (length xs) (xs ++ ys) ≡ xs
    go [] = refl
    go (x ∷ xs) = ap (λ t. x ∷ t) (go xs)

all_of : {A : Type 0} (xs : List A) (n : ℕ) → length xs ≤ n → take n (xs ++ []) ≡ xs
all_of [] zero short = refl
all_of [] (suc n) short = refl
all_of (x ∷ xs) zero short = absurd (omega arith)
all_of (x ∷ xs) (suc n) short = ap (λ t. x ∷ t) (all_of xs n (omega arith))

-- a part of a history's keys of which no item is below one of the rest
keys_from_parts : (S : ReferenceSet) (n : ℕ) (rest top sorted : List RankKey)
    → IsPermutation (entry_keys (history S)) (rest ++ top) → IsAbove key_cmp rest top
    → IsPermutation top sorted → IsSorted key_cmp sorted
    → take n (reverse sorted ++ distinct (flip_args key_cmp) rest) ≡ reverse sorted
    → reverse sorted ≡ hottest_keys S n
keys_from_parts S n rest top sorted parted above moved in_order first =
    sym first ∙ ap (take n) (sym (distinct-descending key_cmp key_order (entry_keys (history S)) rest top sorted (history_has_no_ties S) parted above moved in_order))

-- the n greatest of a history's keys in any order
pub keys_from_greatest : (S : ReferenceSet) (n : ℕ) (keys top sorted : List RankKey)
    → IsPermutation (entry_keys (history S)) keys → AreGreatest key_cmp keys n top
    → IsPermutation top sorted → IsSorted key_cmp sorted → reverse sorted ≡ hottest_keys S n
keys_from_greatest S n keys top sorted given great moved in_order =
    keys_from_parts S n (great.others ++ great.next ∷ []) top sorted (IsPermutation-trans (entry_keys (history S)) keys ((great.others ++ great.next ∷ []) ++ top) given (subst (IsPermutation keys) (sym (append_assoc great.others (great.next ∷ []) top)) great.parts)) (above_from_split key_cmp key_order great.others great.next top great.split) moved in_order
    (first_of (reverse sorted) _ n (length-reverse sorted ∙ length_permutation top sorted moved ∙ great.count))

-- all of a history's keys in any order
pub keys_from_all : (S : ReferenceSet) (n : ℕ) (keys sorted : List RankKey)
    → IsPermutation (entry_keys (history S)) keys → length keys ≤ n → IsPermutation keys sorted
    → IsSorted key_cmp sorted → reverse sorted ≡ hottest_keys S n
keys_from_all S n keys sorted given short moved in_order =
    keys_from_parts S n [] keys sorted given (λ r t none has. absurd none) moved in_order
    (all_of (reverse sorted) n (omega (arith, length-reverse sorted, length_permutation keys sorted moved)))
