-- References that are taken in raise the pages that they name, and leave the others.
--
-- The stamps of a page over both sets are those over the first with those over the second put in,
-- one after the other. The rank of a page is by its second latest stamp, then by the latest. A
-- stamp that goes in behind both changes neither; before both, or between them, it puts a later one
-- in the second place. With one stamp or none, one more gives the page a higher rank.
use Rattle.std.proofs.Common.{◌≡◌, ℕ, ◌≤◌, suc, Bool, true, false, cond, List, [], ◌∷◌, ◌++◌, map, max, sym, ap, refl, ◌∙◌, subst, inl, inr, arith}
use Rattle.std.specs.List.{Contains}
use Rattle.std.specs.Ordering.{is_eq, is_lt, flip_args, match_ordering, ordering_then}
use Rattle.std.specs.declared.cmp.Ordering.{Ordering}
use Rattle.std.specs.declared.cmp.Ordering.TheVariants.{Less, Equal, Greater}
use Rattle.std.proofs.lemmas.Cmp.{tied_itself}
use Rattle.std.proofs.lemmas.List.{append-nil}
use Rattle.std.proofs.lemmas.List.Elements.{Contains-append_left, Contains-append_right}
use Rattle.std.proofs.lemmas.List.Sorted.{ranks_by}
use Rattle.warm_stamps.specs.declared.Stamp.{Stamp}
use Rattle.warm_stamps.specs.declared.PageId.{PageId}
use Rattle.warm_stamps.specs.declared.Reference.{Reference}
use Rattle.warm_stamps.specs.Stamps.{stamp_cmp, page_cmp}
use Rattle.warm_stamps.specs.Distinct.{insert_distinct, distinct, IsAscending}
use Rattle.warm_stamps.proofs.DistinctLemmas.{IsStrictOrder, by_cases, flipped, distinct_rises, distinct_swap}
use Rattle.warm_stamps.proofs.StampLemmas.{page_order, stamp_order, IsStrictOrder-flip}
use Rattle.warm_history.specs.ReferenceSets.{ReferenceSet, is_kept, references_from, references, ◌∪◌}
use Rattle.warm_history.specs.ListHistories.{first_two, list_hist}
use Rattle.warm_history.specs.Histories.{HistoryView, IsHistory, hist, history, references_of}
use Rattle.warm_history.proofs.JoinLemmas.{history_of_own_references}
use Rattle.warm_history.proofs.KeptLemmas.{kept-append}
use Rattle.warm_history.proofs.ListHistoryLemmas.{told, told-append}
use Rattle.warm_rank.specs.declared.RankKey.{RankKey}
use Rattle.warm_rank.specs.declared.RankKey.TheVariants.{Once, Twice}
use Rattle.warm_rank.specs.Keys.{rank_key, key_cmp, ranked_page}
use Rattle.warm_rank.specs.Ranking.{hottest_pages}
use Rattle.warm_rank.specs.Relisting.{AreHottest, RaisesOnly, TakingInRaises, WereHottest, hottest_keys, page_key}
use Rattle.warm_rank.specs.WarmUp.{IsWarmUp}
use Rattle.warm_rank.proofs.EvictionLemmas.{rank_alike, truncation_keeps_order}
use Rattle.warm_rank.proofs.KeyLemmas.{key_order}
use Rattle.warm_rank.proofs.WarmUpLemmas.{warm_from_keys}

-- the key j is not below the key k
abbrev IsNotBelow : RankKey → RankKey → Type 0
IsNotBelow j k = is_lt (key_cmp j k) ≡ false

not_below_itself : (k : RankKey) → IsNotBelow k k
not_below_itself k = ap is_lt (tied_itself key_order.total k)

not_below_both : (i j k : RankKey) → IsNotBelow i j → IsNotBelow j k → IsNotBelow i k
not_below_both i j k first second = (ranks_by key_order.total (λ (k : RankKey). k)).chain i j k first second

-- ---- a page with one stamp more

-- later stamps come first
abbrev falls : Stamp → Stamp → Ordering
falls = flip_args stamp_cmp

falls_order : IsStrictOrder falls
falls_order = IsStrictOrder-flip stamp_cmp stamp_order

-- the key of a page with these stamps, which fall
abbrev key_with : PageId → List Stamp → RankKey
key_with p ss = rank_key p (first_two ss)

-- its older stamp is later than it was
raised : (p : PageId) (a b c d : Stamp) → falls a b ≡ Less
    → IsNotBelow (Twice a c p) (Twice b d p)
raised p a b c d less =
    ap (λ o. is_lt (ordering_then o (ordering_then (stamp_cmp c d) (page_cmp p p)))) (flipped stamp_cmp stamp_order b a Less less)

-- the stamp s goes in behind the stamp a
inserted_behind : (p : PageId) (s a b : Stamp) (ss : List Stamp)
    → IsNotBelow (key_with p (a ∷ insert_distinct falls s (b ∷ ss))) (key_with p (a ∷ b ∷ ss))
inserted_behind p s a b ss =
    let place : Ordering → Type 0 = λ o. IsNotBelow (key_with p (a ∷ match_ordering o (s ∷ b ∷ ss) (b ∷ ss) (b ∷ insert_distinct falls s ss))) (key_with p (a ∷ b ∷ ss)) in
    by_cases (falls s b) _
    (λ less. subst place (sym less) (raised p s b a a less))
    (λ tied. subst place (sym tied) (not_below_itself (Twice b a p)))
    (λ more. subst place (sym more) (not_below_itself (Twice b a p)))

inserted : (p : PageId) (s : Stamp) (ss : List Stamp) → IsAscending falls ss
    → IsNotBelow (key_with p (insert_distinct falls s ss)) (key_with p ss)
inserted p s [] falling = refl
inserted p s (a ∷ []) falling =
    let place : Ordering → Type 0 = λ o. IsNotBelow (key_with p (match_ordering o (s ∷ a ∷ []) (a ∷ []) (a ∷ s ∷ []))) (Once a p) in
    by_cases (falls s a) _
    (λ less. subst place (sym less) refl)
    (λ tied. subst place (sym tied) (not_below_itself (Once a p)))
    (λ more. subst place (sym more) refl)
inserted p s (a ∷ b ∷ ss) falling =
    let place : Ordering → Type 0 = λ o. IsNotBelow (key_with p (match_ordering o (s ∷ a ∷ b ∷ ss) (a ∷ b ∷ ss) (a ∷ insert_distinct falls s (b ∷ ss)))) (Twice b a p) in
    by_cases (falls s a) _
    (λ less. subst place (sym less) (raised p a b s a falling.0.0))
    (λ tied. subst place (sym tied) (not_below_itself (Twice b a p)))
    (λ more. subst place (sym more) (inserted_behind p s a b ss))

-- a page with more stamps
more_stamps : (p : PageId) (ss more : List Stamp)
    → IsNotBelow (key_with p (distinct falls (more ++ ss))) (key_with p (distinct falls ss))
more_stamps p ss [] = not_below_itself (key_with p (distinct falls ss))
more_stamps p ss (s ∷ more) =
    not_below_both (key_with p (distinct falls (s ∷ (more ++ ss)))) (key_with p (distinct falls (more ++ ss))) (key_with p (distinct falls ss))
    (inserted p s (distinct falls (more ++ ss)) (distinct_rises falls falls_order (more ++ ss)))
    (more_stamps p ss more)

-- ---- references are taken in

pub no_greater : (a b : ℕ) → b ≤ a → max a b ≡ a
no_greater a b le = omega (arith, le)

-- the stamps of a page in both sets, if the horizon stays
hist_of_both : (S T : ReferenceSet) (p : PageId) → T.horizon ≤ S.horizon
    → hist (S ∪ T) p ≡ first_two (distinct falls (told (references S) p ++ told (references_from S.horizon T.given) p))
hist_of_both S T p le =
    ap (λ m. list_hist (references_from m (S.given ++ T.given)) p) (no_greater S.horizon T.horizon le)
    ∙ ap (λ rs. list_hist rs p) (kept-append S.horizon S.given T.given)
    ∙ ap (λ ss. first_two (distinct falls ss)) (told-append (references S) (references_from S.horizon T.given) p)

pub differs : (q p : PageId) → (q ≡ p → ⊥) → is_eq (page_cmp q p) ≡ false
differs q p apart = by_cases (page_cmp q p) _ (λ less. ap is_eq less) (λ tied. absurd (apart (page_order.same q p tied))) (λ more. ap is_eq more)

-- no stamp is of a page that no reference is to
ungiven : (horizon : ℕ) (T : List Reference) (p : PageId) → (Contains (map (λ r. r.page) T) p → ⊥)
    → told (references_from horizon T) p ≡ []
ungiven horizon [] p unnamed = refl
ungiven horizon (r ∷ T) p unnamed = cases (is_kept horizon r.stamp) refl (ungiven horizon T p (λ has. unnamed (suc has.0, omega arith, has.2)))
  where
    cases : (b : Bool) → is_kept horizon r.stamp ≡ b → told (references_from horizon T) p ≡ []
        → told (references_from horizon (r ∷ T)) p ≡ []
    cases true is rest = rw is (rw (differs r.page p (λ same. unnamed (0, omega arith, same))) rest)
    cases false is rest = rw is rest

pub taking_in_raises : TakingInRaises
taking_in_raises S T le = record {
  none_falls = λ p.
      let old = told (references S) p in
      let new = told (references_from S.horizon T.given) p in
      let is : hist (S ∪ T) p ≡ first_two (distinct falls (new ++ old)) = hist_of_both S T p le ∙ ap first_two (distinct_swap falls falls_order old new) in
      subst (λ x. IsNotBelow (rank_key p x) (page_key S p)) (sym is) (more_stamps p old new);
  others_stay = λ p unnamed.
      let old = told (references S) p in
      hist_of_both S T p le ∙ ap (λ ss. first_two (distinct falls (old ++ ss))) (ungiven S.horizon T.given p unnamed) ∙ ap (λ ss. first_two (distinct falls ss)) (append-nil old);
}

-- ---- one raise after the other

pub raises_itself : (S : ReferenceSet) → RaisesOnly [] S S
raises_itself S = record { none_falls = λ p. not_below_itself (page_key S p); others_stay = λ p other. refl }

pub raises_both : (first second : List PageId) (S T U : ReferenceSet) → RaisesOnly first S T
    → RaisesOnly second T U → RaisesOnly (first ++ second) S U
raises_both first second S T U one two = record {
  none_falls = λ p. not_below_both (page_key U p) (page_key T p) (page_key S p) (two.none_falls p) (one.none_falls p);
  others_stay = λ p other.
      two.others_stay p (λ has. other (Contains-append_right first second p has)) ∙ one.others_stay p (λ has. other (Contains-append_left first second p has));
}

-- more pages may be named
pub raises_more : (named more : List PageId) (S T : ReferenceSet) → RaisesOnly named S T
    → ((p : PageId) → Contains named p → Contains more p) → RaisesOnly more S T
raises_more named more S T one within = record {
  none_falls = one.none_falls;
  others_stay = λ p other. one.others_stay p (λ has. other (within p has));
}

-- if both say the same of each page
pub raises_alike : (changed : List PageId) (S T U : ReferenceSet) → RaisesOnly changed S T
    → ((p : PageId) → hist T p ≡ hist U p) → RaisesOnly changed S U
raises_alike changed S T U one alike = record {
  none_falls = λ p. subst (λ x. IsNotBelow (rank_key p x) (page_key S p)) (alike p) (one.none_falls p);
  others_stay = λ p other. sym (alike p) ∙ one.others_stay p other;
}

-- ---- lists

-- the list of a history is one from which no page has risen
pub hottest_now : (h : HistoryView) (n : ℕ) (keys : List RankKey) → IsHistory h → AreHottest h n keys
    → WereHottest h n [] keys
hottest_now h n keys whole hottest = record {
  earlier = references_of h;
  listed = hottest (references_of h) (sym (history_of_own_references h whole));
  raised = raises_itself (references_of h);
}

none_changed : (p : PageId) → Contains [] p → ⊥
none_changed p (k, lt, is) = absurd (omega arith)

-- and if no page has risen, the pages of the list are the hottest still
pub hottest_still : (h : HistoryView) (n : ℕ) (keys : List RankKey) → WereHottest h n [] keys
    → IsWarmUp h n (map ranked_page keys)
hottest_still h n keys were S stands =
    ap (map ranked_page) were.listed
    ∙ warm_from_keys were.earlier n
    ∙ (rank_alike were.earlier (references_of h) (λ p. sym (were.raised.others_stay p (none_changed p)))).hottest_alike n
    ∙ (truncation_keeps_order h S stands).hottest_alike n
