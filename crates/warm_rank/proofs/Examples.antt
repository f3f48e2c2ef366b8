-- Distances, the eviction order, victims and warm-up lists, computed on small sets of references.
use Rattle.std.proofs.Common.{◌≡◌, ◌≢◌, ℕ, zero, suc, List, [], ◌∷◌, map, refl, sym, subst, Some, None, arith}
use Rattle.std.specs.List.{Contains}
use Rattle.std.specs.declared.cmp.Ordering.TheVariants.{Less}
use Rattle.warm_stamps.specs.declared.PageId.{PageId}
use Rattle.warm_stamps.specs.declared.Reference.{Reference}
use Rattle.warm_history.specs.ReferenceSets.{ReferenceSet, references, set_of_list, ◌∪◌}
use Rattle.warm_history.specs.Histories.{history}
use Rattle.warm_rank.specs.Backward.{StampsAscend, places_back}
use Rattle.warm_rank.specs.Keys.{ranked_page}
use Rattle.warm_rank.specs.Ranking.{dist, eviction_cmp, IsBefore, IsVictim, hottest_pages}
use Rattle.warm_rank.specs.Relisting.{candidates, greatest_keys, hottest_keys}

-- the page 0:n
abbrev page : ℕ → PageId
page n = record { dev = 0; no = n }

-- a reference to the page 0:n at a time, at replica 1
abbrev seen : ℕ → ℕ → Reference
seen n time = record { page = page n; stamp = record { time = time; replica = 1 } }

-- ---- a page that was referenced twice, and then a scan of two pages

abbrev scan : ReferenceSet
scan = set_of_list (seen 1 1 ∷ seen 1 2 ∷ seen 5 10 ∷ seen 6 11 ∷ [])

scan_distance : dist scan (page 1) ≡ Some 3
scan_distance = refl

scan_first_infinite : dist scan (page 5) ≡ None
scan_first_infinite = refl

scan_second_infinite : dist scan (page 6) ≡ None
scan_second_infinite = refl

-- the scan is given in the order of its stamps: three places from its end to the last but one
-- reference to the page
scan_rises : StampsAscend (references scan)
scan_rises = ((refl, (refl, (refl, tt))), ((refl, (refl, tt)), ((refl, tt), (tt, tt))))

scan_places : places_back (references scan) (page 1) ≡ Some 3
scan_places = refl

scan_no_place : places_back (references scan) (page 5) ≡ None
scan_no_place = refl

-- a page with three references: the first of them doesn't matter
three_times : places_back (seen 4 1 ∷ seen 4 2 ∷ seen 5 3 ∷ seen 4 4 ∷ seen 6 5 ∷ []) (page 4)
    ≡ Some 3
three_times = refl

-- a reference that is given twice counts once
told_twice : dist (set_of_list (seen 5 10 ∷ seen 1 2 ∷ []) ∪ scan) (page 1) ≡ Some 3
told_twice = refl

-- the scan is evicted first, its older page before the other
scan_is_evicted_first : eviction_cmp scan (page 6) (page 1) ≡ Less
unfolding eviction_cmp
scan_is_evicted_first = refl

older_is_evicted_first : eviction_cmp scan (page 5) (page 6) ≡ Less
unfolding eviction_cmp
older_is_evicted_first = refl

-- a page without a reference is evicted before them, and of two such pages the lesser
unknown_is_evicted_first : eviction_cmp scan (page 7) (page 5) ≡ Less
unfolding eviction_cmp
unknown_is_evicted_first = refl

lesser_unknown_is_evicted_first : eviction_cmp scan (page 7) (page 8) ≡ Less
unfolding eviction_cmp
lesser_unknown_is_evicted_first = refl

scan_victim : IsVictim scan (page 1 ∷ page 5 ∷ page 6 ∷ []) (Some (page 5))
unfolding eviction_cmp
scan_victim = ((1, omega arith, refl), before)
  where
    before : (q : PageId) → Contains (page 1 ∷ page 5 ∷ page 6 ∷ []) q → q ≢ page 5
        → IsBefore scan (page 5) q
    before q (zero, lt, is) differ = subst (IsBefore scan (page 5)) is refl
    before q (suc zero, lt, is) differ = absurd (differ (sym is))
    before q (suc (suc zero), lt, is) differ = subst (IsBefore scan (page 5)) is refl
    before q (suc (suc (suc k)), lt, is) differ = absurd (omega arith)

-- ---- two pages that were referenced twice: the one whose references lie farther apart is evicted,
-- though it was referenced last

abbrev apart : ReferenceSet
apart = set_of_list (seen 1 1 ∷ seen 1 100 ∷ seen 2 50 ∷ seen 2 60 ∷ [])

apart_distance_1 : dist apart (page 1) ≡ Some 3
apart_distance_1 = refl

apart_distance_2 : dist apart (page 2) ≡ Some 2
apart_distance_2 = refl

farther_is_evicted_first : eviction_cmp apart (page 1) (page 2) ≡ Less
unfolding eviction_cmp
farther_is_evicted_first = refl

apart_victim : IsVictim apart (page 1 ∷ page 2 ∷ []) (Some (page 1))
unfolding eviction_cmp
apart_victim = ((0, omega arith, refl), before)
  where
    before : (q : PageId) → Contains (page 1 ∷ page 2 ∷ []) q → q ≢ page 1
        → IsBefore apart (page 1) q
    before q (zero, lt, is) differ = absurd (differ (sym is))
    before q (suc zero, lt, is) differ = subst (IsBefore apart (page 1)) is refl
    before q (suc (suc k), lt, is) differ = absurd (omega arith)

-- ---- the hottest pages, the hottest first

abbrev heated : ReferenceSet
heated = set_of_list (seen 5 1 ∷ seen 2 2 ∷ seen 2 3 ∷ seen 9 4 ∷ seen 9 5 ∷ [])

heated_distance_5 : dist heated (page 5) ≡ None
heated_distance_5 = refl

heated_distance_2 : dist heated (page 2) ≡ Some 3
heated_distance_2 = refl

heated_distance_9 : dist heated (page 9) ≡ Some 1
heated_distance_9 = refl

heated_first : eviction_cmp heated (page 5) (page 2) ≡ Less
unfolding eviction_cmp
heated_first = refl

heated_second : eviction_cmp heated (page 2) (page 9) ≡ Less
unfolding eviction_cmp
heated_second = refl

warm_three : hottest_pages heated 3 ≡ page 9 ∷ page 2 ∷ page 5 ∷ []
unfolding eviction_cmp
warm_three = refl

warm_two : hottest_pages heated 2 ≡ page 9 ∷ page 2 ∷ []
unfolding eviction_cmp
warm_two = refl

warm_none : hottest_pages heated 0 ≡ []
warm_none = refl

-- ---- two pages are listed, and then references to some pages come

abbrev two_listed : List PageId
two_listed = map ranked_page (hottest_keys heated 2)

listed_first : two_listed ≡ page 9 ∷ page 2 ∷ []
unfolding history
listed_first = refl

-- the pages of the candidates after references to the pages `changed`, two of them
abbrev listed_after : ReferenceSet → List PageId → List PageId
listed_after T changed =
    map ranked_page (greatest_keys (candidates T changed (hottest_keys heated 2)) 2)

-- a page that was not listed comes in, and the last one leaves
abbrev five_rose : ReferenceSet
five_rose = heated ∪ set_of_list (seen 5 6 ∷ seen 5 7 ∷ [])

five_comes_in : listed_after five_rose (page 5 ∷ []) ≡ page 5 ∷ page 9 ∷ []
unfolding history
five_comes_in = refl

five_is_hottest : hottest_pages five_rose 2 ≡ page 5 ∷ page 9 ∷ []
unfolding eviction_cmp
five_is_hottest = refl

-- a listed page goes to the front, even if it is named twice
abbrev two_rose : ReferenceSet
two_rose = heated ∪ set_of_list (seen 2 6 ∷ seen 2 7 ∷ [])

two_goes_first : listed_after two_rose (page 2 ∷ page 2 ∷ []) ≡ page 2 ∷ page 9 ∷ []
unfolding history
two_goes_first = refl

two_is_hottest : hottest_pages two_rose 2 ≡ page 2 ∷ page 9 ∷ []
unfolding eviction_cmp
two_is_hottest = refl

-- a page that is named and not known is no candidate
none_known : listed_after heated (page 4 ∷ []) ≡ page 9 ∷ page 2 ∷ []
unfolding history
none_known = refl

-- without the names of the pages that rose, the list is not that of the hottest
unnamed_stays_out : listed_after five_rose [] ≡ page 9 ∷ page 2 ∷ []
unfolding history
unnamed_stays_out = refl
