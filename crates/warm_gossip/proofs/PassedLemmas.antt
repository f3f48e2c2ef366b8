-- Which pages of a warm-up stay passed while the pool changes.
use Rattle.std.proofs.Common.{◌≡◌, ◌≢◌, ◌⊎◌, ℕ, zero, suc, ◌+◌, ◌<◌, ◌≤◌, List, [], ◌∷◌, ◌++◌, length, map, get_or, Option, Some, None, IfSome, refl, sym, ap, subst, ◌∙◌, inl, inr, arith}
use Rattle.std.specs.Ordering.{flip_args}
use Rattle.std.specs.declared.cmp.Ordering.{Ordering}
use Rattle.std.specs.declared.cmp.Ordering.TheVariants.{Less}
use Rattle.std.proofs.lemmas.Bool.{cases_order}
use Rattle.std.proofs.lemmas.List.{length-map, length-set}
use Rattle.std.proofs.lemmas.List.Elements.{Contains-get_or}
use Rattle.warm_stamps.specs.declared.PageId.{PageId}
use Rattle.warm_stamps.specs.Distinct.{distinct, IsAscending}
use Rattle.warm_stamps.proofs.DistinctLemmas.{distinct_rises, rising_take}
use Rattle.warm_stamps.proofs.StampLemmas.{IsStrictOrder-flip}
use Rattle.warm_history.specs.ReferenceSets.{ReferenceSet}
use Rattle.warm_history.specs.Histories.{HistoryView, IsHistory, pages, references_of}
use Rattle.warm_history.proofs.JoinLemmas.{history_of_own_references}
use Rattle.warm_rank.specs.declared.RankKey.{RankKey}
use Rattle.warm_rank.specs.Keys.{ranked_page}
use Rattle.warm_rank.specs.Ranking.{IsBefore, eviction_cmp, hottest_pages}
use Rattle.warm_rank.specs.Relisting.{AreHottest, RaisesOnly, WereHottest}
use Rattle.warm_rank.proofs.EvictionLemmas.{eviction_is_order, eviction_order}
use Rattle.warm_rank.proofs.OutrankedLemmas.{all_has, contains_has}
use Rattle.warm_rank.proofs.RaisedLemmas.{hottest_now, hottest_still, raises_both}
use Rattle.warm_pool.specs.declared.slot.Placed.{Placed}
use Rattle.warm_pool.specs.declared.slot.Slot.{Slot}
use Rattle.warm_pool.specs.View.{PoolView, frame_at}
use Rattle.warm_pool.specs.Pinning.{IsPlaced, Pinned, PutsIn}
use Rattle.warm_gossip.specs.declared.warm_step.WarmUp.{WarmUp}
use Rattle.warm_gossip.specs.Step.{IsFirstLoadable, IsLoadable, nth_page}
use Rattle.warm_gossip.specs.WarmingUp.{IsListed, IsNoneBefore, IsPast, IsWarming, Notes, PassedAtFill, PassedAtLoad, PassedAtNext, PassedAtPin}
use Rattle.warm_gossip.proofs.VictimLemmas.{frames_after}
use Rattle.warm_gossip.proofs.WarmUpLemmas.{came_in, frames_count, has_same, resident_or_absent}

-- ---- if no page is evicted

-- then the passed pages stay passed
stay_passed : (h : HistoryView) (v w : PoolView) (p : PageId) (placed : Placed)
    (changed : List PageId) (keys : List RankKey) (n : ℕ) → w.devices ≡ v.devices
    → length w.frames ≡ length v.frames → IsPlaced v p placed w → placed.evicted ≡ None
    → IsListed h v changed keys n → IsListed h w changed keys n
stay_passed h v w p placed changed keys n devices count is none under =
    let ps = map ranked_page keys in
    record {
      hottest = subst (λ k. WereHottest h k changed keys) (sym count) under.hottest;
      past = λ j before there loadable. elim (resident_or_absent v (nth_page ps j)) [
        | inl resident ↦ let never : None ≡ Some (nth_page ps j) = sym none ∙ (is.left (nth_page ps j)).1 (resident, loadable.1) in absurd (cc)
        | inr absent ↦ under.past j before there (has_same w v (nth_page ps j) (sym devices) loadable.0, absent)
      ];
    }

-- none is passed
none_passed : (h : HistoryView) (v w : PoolView) (changed : List PageId) (keys : List RankKey)
    (m n : ℕ) → length w.frames ≡ length v.frames → n ≡ 0 → IsListed h v changed keys m
    → IsListed h w changed keys n
none_passed h v w changed keys m n count none under = record {
  hottest = subst (λ k. WereHottest h k changed keys) (sym count) under.hottest;
  past = λ j before. absurd (omega (arith, none, before));
}

-- ---- the list that is kept, if one is

-- what holds of these keys still holds if they are kept
where_kept : (h : HistoryView) (v w : PoolView) (x : WarmUp) (n : ℕ)
    → ((keys : List RankKey) → IsListed h v x.changed.items keys x.passed
    → IsListed h w x.changed.items keys n)
    → IsWarming h v x → IsWarming h w (record x { passed = n })
where_kept h v w x n goes under = elim x.list as (λ o. IfSome o (λ keys. IsListed h v x.changed.items keys x.passed) → IfSome o (λ keys. IsListed h w x.changed.items keys n)) [ None ↦ λ none. none | Some keys ↦ λ u. goes keys u ] under

-- nothing is kept
pub none_kept : (h : HistoryView) (v : PoolView) (x : WarmUp) → x.list ≡ None → IsWarming h v x
none_kept h v x none = subst (λ o. IfSome o (λ keys. IsListed h v x.changed.items keys x.passed)) (sym none) tt

-- the pages that rose are noted
pub noted : (g h : HistoryView) (v : PoolView) (pages : List PageId) (x y : WarmUp)
    → RaisesOnly pages (references_of g) (references_of h) → Notes pages x y → IsWarming g v x
    → IsWarming h v y
noted g h v pages x y raise (inl none) under = none_kept h v y none
noted g h v pages x y raise (inr (same, passed, more)) under =
    subst (λ o. IfSome o (λ keys. IsListed h v y.changed.items keys y.passed)) (sym same)
    (subst (λ c. IfSome x.list (λ keys. IsListed h v c keys y.passed)) (sym more)
    (subst (λ n. IfSome x.list (λ keys. IsListed h v (x.changed.items ++ pages) keys n)) (sym passed) (go x.list under)))
  where
    go : (o : Option (List RankKey))
        → IfSome o (λ keys. IsListed g v x.changed.items keys x.passed)
        → IfSome o (λ keys. IsListed h v (x.changed.items ++ pages) keys x.passed)
    go None none = none
    go (Some keys) u = record {
      hottest = record {
        earlier = u.hottest.earlier;
        listed = u.hottest.listed;
        raised = raises_both x.changed.items pages u.hottest.earlier (references_of g) (references_of h) u.hottest.raised raise;
      };
      past = u.past;
    }

-- what is kept of a list
pub kept_list : (h : HistoryView) (v : PoolView) (x : WarmUp) (keys : List RankKey)
    → Some keys ≡ x.list → IsWarming h v x → IsListed h v x.changed.items keys x.passed
kept_list h v x keys is under = subst (λ o. IfSome o (λ ks. IsListed h v x.changed.items ks x.passed)) (sym is) under

-- a current list of which more pages are passed
pub listed_at : (h : HistoryView) (v : PoolView) (changed : List PageId) (keys : List RankKey)
    (m n : ℕ) → IsListed h v [] keys m → changed ≡ [] → IsPast (map ranked_page keys) n v
    → IsListed h v changed keys n
listed_at h v changed keys m n listed current past = record {
  hottest = subst (λ c. WereHottest h (length v.frames) c keys) (sym current) listed.hottest;
  past = past;
}

-- a list that was just made, of which none is passed
pub listed_first : (h : HistoryView) (v : PoolView) (keys : List RankKey) (n : ℕ) → IsHistory h
    → AreHottest h (length v.frames) keys → n ≡ 0 → IsListed h v [] keys n
listed_first h v keys n whole hottest none = record {
  hottest = hottest_now h (length v.frames) keys whole hottest;
  past = λ j before. absurd (omega (arith, none, before));
}

-- ---- pins

-- a page that is pinned leaves the pages passed that are passed still
at_pin : (h : HistoryView) (v w : PoolView) (p : PageId) (placed : Placed) (changed : List PageId)
    (keys : List RankKey) (m n : ℕ) → w.devices ≡ v.devices → length w.frames ≡ length v.frames
    → IsPlaced v p placed w → PassedAtPin placed.evicted m n → IsListed h v changed keys m
    → IsListed h w changed keys n
at_pin h v w p placed changed keys m n devices count is (inl none) under = none_passed h v w changed keys m n count none under
at_pin h v w p placed changed keys m n devices count is (inr (none, same)) under = stay_passed h v w p placed changed keys n devices count is none (subst (IsListed h v changed keys) (sym same) under)

pub pinned : (h : HistoryView) (v w : PoolView) (p : PageId) (placed : Placed) (x : WarmUp) (n : ℕ)
    → PassedAtPin placed.evicted x.passed n → Pinned h v p placed.slot w → IsPlaced v p placed w
    → IsWarming h v x → IsWarming h w (record x { passed = n })
pinned h v w p placed x n passed (has, adds_or_puts) is = elim adds_or_puts [
  | inl adds ↦
      where_kept h v w x n (λ keys. at_pin h v w p placed x.changed.items keys x.passed n (ap (λ y. y.devices) adds.becomes) (ap (λ y. length y.frames) adds.becomes ∙ length-set v.frames placed.slot.index _) is passed)
  | inr puts ↦ where_kept h v w x n (λ keys. at_pin h v w p placed x.changed.items keys x.passed n (ap (λ y. y.devices) puts.becomes) (frames_count puts) is passed)
]

-- ---- steps of the warm-up

-- of two items of a rising list, the one that comes first is below the other
rises_at : {A : Type 0} (cmp : A → A → Ordering) (xs : List A) (d : A) → IsAscending cmp xs
    → (j i : ℕ) → j < i → i < length xs → cmp (get_or xs j d) (get_or xs i d) ≡ Less
rises_at cmp [] d rising j i before there = absurd (omega (arith, there))
rises_at cmp (x ∷ xs) d rising j zero before there = absurd (omega (arith, before))
rises_at cmp (x ∷ xs) d rising zero (suc i) before there =
    let within : i < length xs = omega (arith, there) in
    all_has (λ y. cmp x y ≡ Less) xs (get_or xs i d) rising.0 (contains_has xs (get_or xs i d) (Contains-get_or xs i d within))
rises_at cmp (x ∷ xs) d rising (suc j) (suc i) before there = rises_at cmp xs d rising.1 j i (omega (arith, before)) (omega (arith, there))

-- of two pages of a warm-up list, the one that comes first leaves after the other
leaves_later : (S : ReferenceSet) (n : ℕ) (ps : List PageId) → ps ≡ hottest_pages S n → (j i : ℕ)
    → j < i → i < length ps → IsBefore S (nth_page ps i) (nth_page ps j)
leaves_later S n ps is j i before there =
    let falls = flip_args (eviction_cmp S) in
    let rising : IsAscending falls (hottest_pages S n) = rising_take falls n (distinct falls (pages S)) (distinct_rises falls (IsStrictOrder-flip (eviction_cmp S) (eviction_order S)) (pages S)) in
    rises_at falls ps (record { dev = 0; no = 0 }) (subst (IsAscending falls) (sym is) rising) j i before there

-- a page that is loaded is passed too, if it evicted none of those before it
pub loaded : {fixes : ℕ} (h : HistoryView) (v w : PoolView) (keys : List RankKey) (slot : Slot)
    (evicted : Option PageId) (at n : ℕ) → IsHistory h → at < length keys → IsListed h v [] keys at
    → PutsIn h v (nth_page (map ranked_page keys) at) fixes slot w
    → evicted ≡ (frame_at v slot.index).page
    → PassedAtLoad h (nth_page (map ranked_page keys) at) evicted at n → IsListed h w [] keys n
loaded {fixes} h v w keys slot evicted at n whole there under puts is moves = record {
  hottest = subst (λ k. WereHottest h k [] keys) (sym (frames_count puts)) under.hottest;
  past = elim moves [ inl none ↦ λ j before. absurd (omega (arith, none, before)) | inr (next, none_before) ↦ past next none_before ];
}
  where
    S : ReferenceSet
    S = references_of h

    ps : List PageId
    ps = map ranked_page keys

    devices : w.devices ≡ v.devices
    devices = ap (λ x. x.devices) puts.becomes

    within_pages : at < length ps
    within_pages = omega (arith, there, length-map keys ranked_page)

    -- a page before the loaded one in the list leaves after it, so it was not evicted
    put_out : IsNoneBefore h (nth_page ps at) evicted → (j : ℕ) → j < at
        → (frame_at v slot.index).page ≡ Some (nth_page ps j) → ⊥
    put_out none_before j before held =
        let q = nth_page ps j in
        let first : IsBefore S q (nth_page ps at) = subst (IsNoneBefore h (nth_page ps at)) (is ∙ held) none_before in
        let order = eviction_is_order S in
        let listed = hottest_still h (length v.frames) keys under.hottest S (sym (history_of_own_references h whole)) in
        let later = leaves_later S (length v.frames) ps listed j at before within_pages in
        order.irreflexive q (order.transitive q (nth_page ps at) q first later)

    past : n ≡ at + 1 → IsNoneBefore h (nth_page ps at) evicted → IsPast ps n w
    past next none_before j before within loadable = elim (cases_order j at) [
      | inl same ↦ loadable.1 slot.index (came_in puts ∙ ap (λ i. Some (nth_page ps i)) (sym same))
      | inr (inl first) ↦ under.past j first within (
        has_same w v (nth_page ps j) (sym devices) loadable.0,
        λ i held. frames_after puts (λ k f. (frame_at v k).page ≡ Some (nth_page ps j) → f.page ≢ Some (nth_page ps j) → ⊥)
            (λ here gone. put_out none_before j first here) (λ k other here gone. gone here) i held (loadable.1 i),
      )
      | inr (inr after) ↦ absurd (omega (arith, next, after, before))
    ]

-- ---- pins of pages whose bytes are given

-- the pin evicted a page, and the list is current
at_fill : (h : HistoryView) (v w : PoolView) (p e : PageId) (placed : Placed) (keys : List RankKey)
    (m n : ℕ) → IsHistory h → placed.evicted ≡ Some e → Pinned h v p placed.slot w
    → IsPlaced v p placed w → PassedAtNext h keys m p e n
    → IsListed h v [] keys m → IsListed h w [] keys n
at_fill h v w p e placed keys m n whole was (has, inl adds) is moves under =
    let none : placed.evicted ≡ None = is.resident (record { frame = placed.slot.index; there = adds.there; holds = adds.resident }) in
    let no : None ≡ Some e = sym none ∙ was in
    absurd (cc)
at_fill h v w p e placed keys m n whole was (has, inr puts) is (inl none) under = none_passed h v w [] keys m n (frames_count puts) none under
at_fill h v w p e placed keys m n whole was (has, inr puts) is (inr (there, next, moves)) under =
    loaded h v w keys placed.slot (Some e) m n whole there under
    (subst (λ q. PutsIn h v q 1 placed.slot w) (sym next) puts) (sym was ∙ is.absent puts.absent)
    (subst (λ q. PassedAtLoad h q (Some e) m n) (sym next) moves)

-- the pin evicted a page, and pages of the list may have risen
at_any_fill : (h : HistoryView) (v w : PoolView) (p e : PageId) (placed : Placed)
    (changed : List PageId) (keys : List RankKey) (m n : ℕ) → IsHistory h → placed.evicted ≡ Some e
    → Pinned h v p placed.slot w → IsPlaced v p placed w
    → (n ≡ 0) ⊎ ((changed ≡ []) × PassedAtNext h keys m p e n)
    → IsListed h v changed keys m → IsListed h w changed keys n
at_any_fill h v w p e placed changed keys m n whole was (has, inl adds) is (inl none) under =
    none_passed h v w changed keys m n (ap (λ y. length y.frames) adds.becomes ∙ length-set v.frames placed.slot.index _) none under
at_any_fill h v w p e placed changed keys m n whole was (has, inr puts) is (inl none) under = none_passed h v w changed keys m n (frames_count puts) none under
at_any_fill h v w p e placed changed keys m n whole was pins is (inr (current, moves)) under =
    subst (λ c. IsListed h w c keys n) (sym current) (at_fill h v w p e placed keys m n whole was pins is moves (subst (λ c. IsListed h v c keys m) current under))

pub filled : (h : HistoryView) (v w : PoolView) (p : PageId) (placed : Placed) (x : WarmUp) (n : ℕ)
    → IsHistory h → PassedAtFill h x p placed.evicted n → Pinned h v p placed.slot w
    → IsPlaced v p placed w → IsWarming h v x → IsWarming h w (record x { passed = n })
filled h v w p placed x n whole passed pins is under =
    elim placed.evicted as (λ o. placed.evicted ≡ o → PassedAtFill h x p o n → IsWarming h w (record x { passed = n })) [
      | None ↦ λ was same. pinned h v w p placed x n (inr (was, same)) pins is under
      | Some e ↦ λ was moves.
          elim x.list as (λ o. IfSome o (λ keys. (n ≡ 0) ⊎ ((x.changed.items ≡ []) × PassedAtNext h keys x.passed p e n)) → IfSome o (λ keys. IsListed h v x.changed.items keys x.passed) → IfSome o (λ keys. IsListed h w x.changed.items keys n)) [
            | None ↦ λ _ none. none
            | Some keys ↦ λ next u. at_any_fill h v w p e placed x.changed.items keys x.passed n whole was pins is next u
          ] moves under
    ] refl passed

-- no page is passed
pub passes_none : (h : HistoryView) (x : WarmUp) (p e : PageId) (n : ℕ) → n ≡ 0
    → PassedAtFill h x p (Some e) n
passes_none h x p e n none = elim x.list as (λ o. IfSome o (λ keys. (n ≡ 0) ⊎ ((x.changed.items ≡ []) × PassedAtNext h keys x.passed p e n))) [ None ↦ tt | Some keys ↦ inl none ]

-- the list is current
pub passes_current : (h : HistoryView) (x : WarmUp) (p e : PageId) (n : ℕ) (keys : List RankKey)
    → x.list ≡ Some keys → x.changed.items ≡ []
    → PassedAtNext h keys x.passed p e n → PassedAtFill h x p (Some e) n
passes_current h x p e n keys is current next = subst (λ o. IfSome o (λ ks. (n ≡ 0) ⊎ ((x.changed.items ≡ []) × PassedAtNext h ks x.passed p e n))) (sym is) (inr (current, next))

-- ---- the page to load next

pub none_left : (v : PoolView) (ps : List PageId) (at : ℕ) → IsPast ps at v → length ps ≤ at
    → IsFirstLoadable v ps None
none_left v ps at past all j there = past j (omega (arith, there, all)) there

pub first_there : (v : PoolView) (ps : List PageId) (at : ℕ) → IsPast ps at v → at < length ps
    → IsLoadable v (nth_page ps at) → IsFirstLoadable v ps (Some (nth_page ps at))
first_there v ps at past there loadable = (at, there, refl, loadable, λ j before. past j before (omega (arith, before, there)))
