-- After a raise, the hottest pages are among those listed before and those that rose.
--
-- Let k be the key after the raise of a page that is not among the changed ones. Then it was the
-- page's key before. If it was listed, it is a candidate still. If not, n keys were listed, all
-- hotter than k. Their pages have different keys now, none of them lower than before: n candidates
-- that are hotter than k. So k is not among the n hottest, and need not be looked at.
use Rattle.std.proofs.Common.{◌≡◌, ℕ, ◌≤◌, Bool, true, false, not, List, [], ◌∷◌, ◌++◌, map, length, take, is_some, sym, ap, refl, ◌∙◌, subst, Option, Some, None, inl, inr, ◌⊎◌, arith}
use Rattle.std.specs.List.{AllByRecursion, Contains, IsDistinct, cons_option}
use Rattle.std.specs.Option.{option_map}
use Rattle.std.specs.Ordering.{eq_by_cmp, is_eq, is_lt, flip_args}
use Rattle.std.specs.declared.cmp.Ordering.{Ordering}
use Rattle.std.specs.declared.cmp.Ordering.TheVariants.{Less, Equal, Greater}
use Rattle.std.proofs.lemmas.Bool.{cases_Bool}
use Rattle.std.proofs.lemmas.Cmp.{tied_itself}
use Rattle.std.proofs.lemmas.List.{length-map}
use Rattle.std.proofs.lemmas.Map.Made.{is_member-Decides}
use Rattle.warm_stamps.specs.declared.PageId.{PageId}
use Rattle.warm_stamps.specs.declared.Reference.{Reference}
use Rattle.warm_stamps.specs.Stamps.{page_cmp}
use Rattle.warm_stamps.specs.Distinct.{distinct, IsAscending}
use Rattle.warm_stamps.proofs.DistinctLemmas.{IsStrictOrder, Has, by_cases, flipped, distinct_rises, has_distinct, has_from_distinct, rising_take}
use Rattle.warm_stamps.proofs.StampLemmas.{page_order, IsStrictOrder-flip}
use Rattle.warm_history.specs.ReferenceSets.{ReferenceSet, references}
use Rattle.warm_history.specs.PageHist.{PageHist}
use Rattle.warm_history.specs.PageHist.TheVariants as page
use Rattle.warm_history.specs.Histories.{hist, history, pages}
use Rattle.warm_history.proofs.HistoryLemmas.{some_named}
use Rattle.warm_history.proofs.ListHistoryLemmas.{named, named-some}
use Rattle.warm_rank.specs.declared.RankKey.{RankKey}
use Rattle.warm_rank.specs.Keys.{rank_key, key_cmp, ranked_page}
use Rattle.warm_rank.specs.Relisting.{CandidatesSuffice, RaisesOnly, candidates, greatest_keys, hottest_keys, is_among, keys_of_others, named_keys, page_key}
use Rattle.warm_rank.specs.WarmUp.{entry_keys}
use Rattle.warm_rank.proofs.KeyLemmas.{key_order, page_of-rank_key}
use Rattle.warm_rank.proofs.OutrankedLemmas.{IsOutranked, contains_has, has_contains, has_back, has_either, has_filter, has_front, has_from_filter, has_take, first_of_some, same_item, taken_or_behind}
use Rattle.warm_rank.proofs.WarmUpLemmas.{keys_of_pages}

-- the hottest first
abbrev hotter : RankKey → RankKey → Ordering
hotter = flip_args key_cmp

hotter_order : IsStrictOrder hotter
hotter_order = IsStrictOrder-flip key_cmp key_order

-- ---- the items of a list that is made item by item

has_map : {A B : Type 0} (f : A → B) (xs : List A) (x : A) → Has xs x → Has (map f xs) (f x)
has_map f [] x has = absurd has
has_map f (y ∷ xs) x (inl here) = inl (ap f here)
has_map f (y ∷ xs) x (inr there) = inr (has_map f xs x there)

has_from_map : {A B : Type 0} (f : A → B) (xs : List A) (y : B) → Has (map f xs) y
    → (x : A) × Has xs x × (f x ≡ y)
has_from_map f [] y has = absurd has
has_from_map f (x ∷ xs) y (inl here) = (x, inl refl, here)
has_from_map f (x ∷ xs) y (inr there) = let from = has_from_map f xs y there in (from.0, inr from.1, from.2)

-- different items give different ones
all_apart : {A B : Type 0} (before : A → A → Ordering) (cmp : B → B → Ordering) (f : A → B) (x : A)
    (xs : List A) → AllByRecursion (λ y. before x y ≡ Less) xs
    → ((y : A) → Has xs y → before x y ≡ Less → is_eq (cmp (f x) (f y)) ≡ false)
    → AllByRecursion (λ z. is_eq (cmp (f x) z) ≡ false) (map f xs)
all_apart before cmp f x [] all apart = tt
all_apart before cmp f x (y ∷ ys) all apart = (apart y (inl refl) all.0, all_apart before cmp f x ys all.1 (λ z has. apart z (inr has)))

distinct_map : {A B : Type 0} (before : A → A → Ordering) (cmp : B → B → Ordering) (f : A → B)
    (xs : List A) → IsAscending before xs
    → ((x y : A) → Has xs x → Has xs y → before x y ≡ Less → is_eq (cmp (f x) (f y)) ≡ false)
    → IsDistinct (eq_by_cmp cmp) (map f xs)
unfolding IsDistinct
distinct_map before cmp f [] rising apart = tt
distinct_map before cmp f (x ∷ xs) rising apart = (
  all_apart before cmp f x xs rising.0 (λ y has. apart x y (inl refl) (inr has)),
  distinct_map before cmp f xs rising.1 (λ y z has_y has_z. apart y z (inr has_y) (inr has_z)),
)

-- ---- the pages of which something is known

named_has : (ps : List PageId) (p : PageId) → named ps p ≡ true → Has ps p
named_has [] p is = let no : false ≡ true = is in absurd (cc)
named_has (q ∷ qs) p is = cases (named_has qs p) (page_cmp q p) refl
  where
    cases : (named qs p ≡ true → Has qs p) → (o : Ordering) → page_cmp q p ≡ o → Has (q ∷ qs) p
    cases later Less less = inr (later (rw less at is))
    cases later Equal tied = inl (page_order.same q p tied)
    cases later Greater more = inr (later (rw more at is))

module _ (S : ReferenceSet) where
  -- the key of a page of which something is known is the key of an entry
  entry_has : (p : PageId) → is_some (hist S p) ≡ true → Has (entry_keys (history S)) (page_key S p)
  entry_has p some =
      let given = map (λ (r : Reference). r.page) (references S) in
      let has : Has (pages S) p = has_distinct page_cmp page_order given p (named_has given p (named-some (references S) p ∙ some)) in
      subst (λ keys. Has keys (page_key S p)) (sym (keys_of_pages S)) (has_map (page_key S) (pages S) p has)

  -- and there are no other keys
  entry_from : (k : RankKey) → Has (entry_keys (history S)) k
      → (k ≡ page_key S (ranked_page k)) × (is_some (hist S (ranked_page k)) ≡ true)
  entry_from k has =
      let from = has_from_map (page_key S) (pages S) k (subst (λ keys. Has keys k) (keys_of_pages S) has) in
      let p = from.0 in
      let some : is_some (hist S p) ≡ true = some_named S p (has_from_distinct page_cmp page_order (map (λ (r : Reference). r.page) (references S)) p from.1) in
      let is : p ≡ ranked_page k = sym (page_of-rank_key p (hist S p)) ∙ ap ranked_page from.2 in
      (sym from.2 ∙ ap (page_key S) is, subst (λ q. is_some (hist S q) ≡ true) is some)

  -- the keys of named pages
  named_keys_has : (ps : List PageId) (p : PageId) → Has ps p → is_some (hist S p) ≡ true
      → Has (named_keys S ps) (page_key S p)
  named_keys_has [] p has some = absurd has
  named_keys_has (q ∷ ps) p (inl here) some =
      subst (λ r. Has (named_keys S (r ∷ ps)) (page_key S p)) (sym here) (one (hist S p) some)
    where
      one : (x : Option PageHist) → is_some x ≡ true
          → Has (cons_option (option_map (λ h. rank_key p (Some h)) x) (named_keys S ps)) (rank_key p x)
      one None is = let no : false ≡ true = is in absurd (cc)
      one (Some h) is = inl refl
  named_keys_has (q ∷ ps) p (inr there) some =
      elim (hist S q) as (λ x. Has (cons_option (option_map (λ h. rank_key q (Some h)) x) (named_keys S ps)) (page_key S p)) [
        | None ↦ named_keys_has ps p there some
        | Some h ↦ inr (named_keys_has ps p there some)
      ]

  named_keys_from : (ps : List PageId) (k : RankKey) → Has (named_keys S ps) k
      → Has (entry_keys (history S)) k
  named_keys_from [] k has = absurd has
  named_keys_from (q ∷ ps) k has = cases (named_keys_from ps k) (hist S q) refl has
    where
      cases : (Has (named_keys S ps) k → Has (entry_keys (history S)) k) → (x : Option PageHist)
          → hist S q ≡ x
          → Has (cons_option (option_map (λ h. rank_key q (Some h)) x) (named_keys S ps)) k
          → Has (entry_keys (history S)) k
      cases later None is has = later has
      cases later (Some h) is (inl here) = subst (Has (entry_keys (history S))) (ap (rank_key q) is ∙ here) (entry_has q (ap is_some is))
      cases later (Some h) is (inr there) = later there

-- ---- raises

-- of a page of which something was known, something is known after a raise
known_still : (p : PageId) (new old : Option PageHist)
    → is_lt (key_cmp (rank_key p new) (rank_key p old)) ≡ false → is_some old ≡ true
    → is_some new ≡ true
known_still p (Some h) old not_below some = refl
known_still p None None not_below some = some
known_still p None (Some (page.Once last)) not_below some = let no : true ≡ false = not_below in absurd (cc)
known_still p None (Some (page.Twice two)) not_below some = let no : true ≡ false = not_below in absurd (cc)

-- what is below a key is below each that is not below that one
below_raised : (j k new : RankKey) → key_cmp j k ≡ Less → is_lt (key_cmp new k) ≡ false
    → key_cmp j new ≡ Less
below_raised j k new less not_below = by_cases (key_cmp new k) _
    (λ under. let no : true ≡ false = sym (ap is_lt under) ∙ not_below in absurd (cc))
    (λ tied. subst (λ x. key_cmp j x ≡ Less) (sym (key_order.same new k tied)) less)
    (λ over. key_order.total.trans j k new less (flipped key_cmp key_order new k Greater over))

module _ (S T : ReferenceSet) (n : ℕ) (changed : List PageId) (raise : RaisesOnly changed S T) where
  -- the list before the raise, and all from which it was made
  abbrev listed : List RankKey
  listed = hottest_keys S n

  abbrev ranked : List RankKey
  ranked = distinct hotter (entry_keys (history S))

  ranked_falls : IsAscending hotter ranked
  ranked_falls = distinct_rises hotter hotter_order (entry_keys (history S))

  -- a page is among the changed ones, or says what it said
  changed_or_not : (p : PageId)
      → Has changed p ⊎ ((is_among changed p ≡ false) × (hist T p ≡ hist S p))
  changed_or_not p = elim (cases_Bool (is_among changed p)) [
    | inl is ↦ inl (contains_has changed p ((is_member-Decides (same_item page_cmp page_order) changed p).0 is))
    | inr not_in ↦ inr (not_in, raise.others_stay p (λ has. let no : false ≡ true = sym not_in ∙ (is_member-Decides (same_item page_cmp page_order) changed p).1 has in absurd (cc)))
  ]

  -- a listed key is that of a page of which something was known, and is
  listed_from : (k : RankKey) → Has listed k
      → (k ≡ page_key S (ranked_page k)) × (is_some (hist S (ranked_page k)) ≡ true)
  listed_from k has = entry_from S k (has_from_distinct hotter hotter_order (entry_keys (history S)) k (has_take n ranked k has))

  -- a page that stays has its key in the list still
  stays_in : (k : RankKey) → Has listed k → is_among changed (ranked_page k) ≡ false
      → Has (keys_of_others changed listed) k
  stays_in k has out = has_filter (λ j. not (is_among changed (ranked_page j))) listed k has (ap not out)

  -- the page of a listed key, by its key after the raise, is a candidate
  listed_is_candidate : (k : RankKey) → Has listed k
      → Has (candidates T changed listed) (page_key T (ranked_page k))
  listed_is_candidate k has =
      let p = ranked_page k in
      let from = listed_from k has in
      elim (changed_or_not p) [
        | inl moved ↦ has_back (keys_of_others changed listed) (named_keys T changed) (page_key T p)
            (named_keys_has T changed p moved (known_still p (hist T p) (hist S p) (raise.none_falls p) from.1))
        | inr (out, same) ↦
            let is : k ≡ page_key T p = from.0 ∙ ap (rank_key p) (sym same) in
            has_front (keys_of_others changed listed) (named_keys T changed) (page_key T p) (subst (Has (keys_of_others changed listed)) is (stays_in k has out))
      ]

  -- each candidate is the key of an entry after the raise
  candidate_from : (k : RankKey) → Has (candidates T changed listed) k
      → Has (entry_keys (history T)) k
  candidate_from k has = elim (has_either (keys_of_others changed listed) (named_keys T changed) k has) [
    | inl stayed ↦
        let passed = has_from_filter (λ j. not (is_among changed (ranked_page j))) listed k stayed in
        let from = listed_from k passed.0 in
        let p = ranked_page k in
        let same : hist T p ≡ hist S p = raise.others_stay p (λ moved. let no : false ≡ true = ap not (sym ((is_member-Decides (same_item page_cmp page_order) changed p).1 moved)) ∙ passed.1 in absurd (cc)) in
        subst (Has (entry_keys (history T))) (ap (rank_key p) same ∙ sym from.0) (entry_has T p (ap is_some same ∙ from.1))
    | inr moved ↦ named_keys_from T changed k moved
  ]

  -- the pages of different listed keys have different keys after the raise
  apart : (j k : RankKey) → Has listed j → Has listed k → hotter j k ≡ Less
      → is_eq (hotter (page_key T (ranked_page j)) (page_key T (ranked_page k))) ≡ false
  apart j k has_j has_k less =
      let new_j = page_key T (ranked_page j) in
      let new_k = page_key T (ranked_page k) in
      by_cases (hotter new_j new_k) _
      (λ under. ap is_eq under)
      (λ tied.
      let same_keys : new_j ≡ new_k = hotter_order.same new_j new_k tied in
      let same : ranked_page j ≡ ranked_page k = sym (page_of-rank_key (ranked_page j) (hist T (ranked_page j))) ∙ ap ranked_page same_keys ∙ page_of-rank_key (ranked_page k) (hist T (ranked_page k)) in
      let one : j ≡ k = (listed_from j has_j).0 ∙ ap (page_key S) same ∙ sym (listed_from k has_k).0 in
      let no : Less ≡ Equal = sym less ∙ ap (hotter j) (sym one) ∙ tied_itself hotter_order.total j in
      absurd (cc))
      (λ over. ap is_eq over)

  -- a page that stays and was not listed comes after as many candidates as were listed
  left_out : (k : RankKey) → n ≤ length listed
      → ((x : RankKey) → Has listed x → hotter x k ≡ Less)
      → IsOutranked hotter (candidates T changed listed) n k
  left_out k enough ahead =
      let now : RankKey → RankKey = λ x. page_key T (ranked_page x) in
      record {
        first = map now listed;
        count = omega (arith, length-map listed now, enough);
        differ = distinct_map hotter hotter now listed (rising_take hotter n ranked ranked_falls) apart;
        within = λ x has. let from = has_from_map now listed x has in subst (Has (candidates T changed listed)) from.2 (listed_is_candidate from.0 from.1);
        before = λ x has.
            let from = has_from_map now listed x has in
            let old = from.0 in
            let not_below : is_lt (key_cmp (now old) old) ≡ false = subst (λ y. is_lt (key_cmp (now old) y) ≡ false) (sym (listed_from old from.1).0) (raise.none_falls (ranked_page old)) in
            subst (λ y. key_cmp k y ≡ Less) from.2 (below_raised k old (now old) (ahead old from.1) not_below);
      }

  each_key : (k : RankKey) → Has (entry_keys (history T)) k
      → Has (candidates T changed listed) k ⊎ IsOutranked hotter (candidates T changed listed) n k
  each_key k has =
      let p = ranked_page k in
      let from = entry_from T k has in
      elim (changed_or_not p) [
        | inl moved ↦ inl (has_back (keys_of_others changed listed) (named_keys T changed) k (subst (Has (named_keys T changed)) (sym from.0) (named_keys_has T changed p moved from.1)))
        | inr (out, same) ↦
            let before : Has (entry_keys (history S)) k = subst (Has (entry_keys (history S))) (ap (rank_key p) (sym same) ∙ sym from.0) (entry_has S p (ap is_some (sym same) ∙ from.1)) in
            elim (taken_or_behind hotter n ranked k ranked_falls (has_distinct hotter hotter_order (entry_keys (history S)) k before)) [
              | inl taken ↦ inl (has_front (keys_of_others changed listed) (named_keys T changed) k (stays_in k taken out))
              | inr (enough, ahead) ↦ inr (left_out k enough ahead)
            ]
      ]

  suffices : hottest_keys T n ≡ greatest_keys (candidates T changed listed) n
  suffices = first_of_some hotter hotter_order (entry_keys (history T)) (candidates T changed listed) n candidate_from each_key

-- the law
pub candidates_suffice : CandidatesSuffice
candidates_suffice S T n changed raise = suffices S T n changed raise
