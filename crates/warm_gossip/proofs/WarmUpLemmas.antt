-- A warm-up of as many steps as there are frames: no page of the list leaves, so each step passes
-- one page more of the list.
use Rattle.std.proofs.Common.{◌≡◌, ◌≢◌, ◌⊎◌, ◌≤◌, ◌<◌, ◌+◌, ℕ, zero, suc, false, List, [], ◌∷◌, map, length, get_or, Option, Some, None, refl, sym, ap, subst, ◌∙◌, inl, inr, arith}
use Rattle.std.specs.Bool.{Decides}
use Rattle.std.specs.List.{Contains, cons_option}
use Rattle.std.specs.Option.{unwrap_or}
use Rattle.std.specs.Ordering.{eq_by_cmp, flip_args, is_eq}
use Rattle.std.proofs.lemmas.Bool.{cases_Bool, cases_order, false≢true}
use Rattle.std.proofs.lemmas.Cmp.{eq_by_cmp_equiv, tied_itself}
use Rattle.std.proofs.lemmas.List.{get_or-map, length-map, length-set, length-take}
use Rattle.std.proofs.lemmas.List.Elements.{All-contains, All-from_get_or, Contains-get_or}
use Rattle.std.proofs.lemmas.Map.Keys.{IsDistinct-from_apart}
use Rattle.std.proofs.lemmas.Map.Made.{is_member-Decides, length-le_from_is_member}
use Rattle.warm_stamps.specs.declared.PageId.{PageId}
use Rattle.warm_stamps.specs.Distinct.{distinct}
use Rattle.warm_stamps.specs.Stamps.{page_cmp}
use Rattle.warm_stamps.proofs.DistinctLemmas.{Has, is_equal}
use Rattle.warm_stamps.proofs.StampLemmas.{page_order}
use Rattle.warm_history.specs.ReferenceSets.{ReferenceSet}
use Rattle.warm_history.specs.Histories.{HistoryView, StandsFor, pages}
use Rattle.warm_rank.specs.Laws.{pages_in}
use Rattle.warm_rank.specs.Ranking.{IsVictim, eviction_cmp, hottest_pages}
use Rattle.warm_rank.proofs.EvictionLemmas.{truncation_keeps_order}
use Rattle.warm_rank.proofs.OutrankedLemmas.{has_contains}
use Rattle.warm_rank.proofs.RaisedLemmas.{differs}
use Rattle.warm_pool.specs.declared.slot.Slot.{Slot}
use Rattle.warm_pool.specs.State.{PoolState, IsPool}
use Rattle.warm_pool.specs.View.{PoolView, FrameView, frame_at, is_page, HasPage, IsResident, IsAbsent, IsUnfixed, unfixed_page, unfixed_pages, view_of}
use Rattle.warm_pool.specs.Pinning.{HasNoFreeFrame, PutsIn}
use Rattle.warm_pool.proofs.PageByteLemmas.{page_found, found_page, frame_seen}
use Rattle.warm_gossip.specs.declared.call.Call.TheVariants.{WarmStep}
use Rattle.warm_gossip.specs.declared.call.Reply.TheVariants.{Loaded, Refused}
use Rattle.warm_gossip.specs.State.{NodeView}
use Rattle.warm_gossip.specs.Step.{IsFirstLoadable, IsLoadable, IsNextWarm, Step, nth_page}
use Rattle.warm_gossip.specs.WarmingUp.{IsPast}
use Rattle.warm_gossip.specs.WarmUps.{PagesDiffer, WarmSteps, WarmStepKeepsHottest, NodeWarmUpLoads}
use Rattle.warm_gossip.proofs.HottestLemmas.{after_listed}
use Rattle.warm_gossip.proofs.VictimLemmas.{no_frame, frames_after, none_changed, refused, victim_left, victim_over}

-- ---- the pages in the frames

-- a frame has this page, or it has not
pub held_or_not : (p : PageId) (o : Option PageId) → (o ≡ Some p) ⊎ (o ≢ Some p)
held_or_not p o = elim (cases_Bool (is_page p o)) [ inl is ↦ inl (page_found p o is) | inr is ↦ inr (λ held. absurd (false≢true (sym is ∙ found_page p o held))) ]

-- a page is in a frame, or in none
pub resident_or_absent : (v : PoolView) (p : PageId) → IsResident v p ⊎ IsAbsent v p
resident_or_absent v p = elim (go v.frames) [ inl (k, lt, is) ↦ inl (record { frame = k; there = lt; holds = is }) | inr none ↦ inr none ]
  where
    first : (f : FrameView) (fs : List FrameView) → f.page ≢ Some p
        → ((k : ℕ) → (get_or fs k no_frame).page ≢ Some p) → (k : ℕ)
        → (get_or (f ∷ fs) k no_frame).page ≢ Some p
    first f fs away none zero = away
    first f fs away none (suc k) = none k

    go : (fs : List FrameView)
        → ((k : ℕ) × (k < length fs) × ((get_or fs k no_frame).page ≡ Some p))
        ⊎ ((k : ℕ) → (get_or fs k no_frame).page ≢ Some p)
    go [] = inr (λ k is. let no : None ≡ Some p = is in absurd (cc))
    go (f ∷ fs) = elim (held_or_not p f.page) [
      | inl is ↦ inl (0, omega arith, is)
      | inr away ↦ elim (go fs) [ inl (k, lt, is) ↦ inl (suc k, omega (arith, lt), is) | inr none ↦ inr (first f fs away none) ]
    ]

-- if no page is pinned, the page of each frame is unpinned
unfixed_has : (fs : List FrameView) → ((i : ℕ) → (get_or fs i no_frame).fixes ≡ 0)
    → (i : ℕ) (p : PageId) → (get_or fs i no_frame).page ≡ Some p
    → Has (pages_in (map unfixed_page fs)) p
unfixed_has [] unfixed i p is = let no : None ≡ Some p = is in absurd (cc)
unfixed_has (f ∷ fs) unfixed zero p is = rw (unfixed 0, is) (inl refl)
unfixed_has (f ∷ fs) unfixed (suc i) p is =
    let later : Has (pages_in (map unfixed_page fs)) p = unfixed_has fs (λ j. unfixed (suc j)) i p is in
    rw (unfixed 0) (elim f.page as (λ o. Has (cons_option o (pages_in (map unfixed_page fs))) p) [ None ↦ later | Some q ↦ inr later ])

-- over the same devices, whether a device has a page doesn't depend on the frames
pub has_same : (v w : PoolView) (p : PageId) → w.devices ≡ v.devices → HasPage v p → HasPage w p
has_same v w p same has = record { device = rw same has.device; number = rw same has.number }

same_page : (p q : PageId) → Decides (eq_by_cmp page_cmp p q) (p ≡ q)
same_page p q = (λ tied. page_order.same p q (is_equal (page_cmp p q) tied), λ is. ap (λ x. is_eq (page_cmp p x)) (sym is) ∙ ap is_eq (tied_itself page_order.total p))

-- If every frame has a page and each page is in one frame, no list of as many pages as there are
-- frames has all of these and one more.
crowded : (v : PoolView) → PagesDiffer v → HasNoFreeFrame v → (q : PageId) → IsAbsent v q
    → (ps : List PageId) → length ps ≤ length v.frames → Contains ps q
    → ((i : ℕ) (r : PageId) → (frame_at v i).page ≡ Some r → Contains ps r) → ⊥
crowded v differ full q absent ps few listed within =
    let more = length-le_from_is_member (eq_by_cmp_equiv page_order.total) (q ∷ held) ps (IsDistinct-from_apart (eq_by_cmp page_cmp) (q ∷ held) apart)
    (λ r has. (is_member-Decides same_page ps r).1 (all_listed r ((is_member-Decides same_page (q ∷ held) r).0 has))) in
    omega (arith, more, length-map v.frames (λ f. unwrap_or f.page q), few)
  where
    held : List PageId
    held = map (λ f. unwrap_or f.page q) v.frames

    filled : (o : Option PageId) → o ≢ None → o ≡ Some (unwrap_or o q)
    filled None some = absurd (some refl)
    filled (Some r) some = refl

    is_held : (i : ℕ) (d : PageId) → i < length held → (frame_at v i).page ≡ Some (get_or held i d)
    is_held i d lt =
        let there : i < length v.frames = omega (arith, lt, length-map v.frames (λ f. unwrap_or f.page q)) in
        filled (frame_at v i).page (full i there) ∙ ap Some (sym (get_or-map (λ f. unwrap_or f.page q) v.frames i no_frame d there))

    apart : (i j : ℕ) (d : PageId) → i < j → j < length (q ∷ held)
        → eq_by_cmp page_cmp (get_or (q ∷ held) i d) (get_or (q ∷ held) j d) ≡ false
    apart i zero d before lt = absurd (omega (arith, before))
    apart zero (suc j) d before lt = differs q (get_or held j d) (λ is. absent j (is_held j d (omega (arith, lt)) ∙ ap Some (sym is)))
    apart (suc i) (suc j) d before lt = differs (get_or held i d) (get_or held j d) (λ is.
        let same : i ≡ j = differ i j (get_or held j d) (is_held i d (omega (arith, before, lt)) ∙ ap Some is) (is_held j d (omega (arith, lt))) in
        omega (arith, same, before))

    all_listed : (r : PageId) → Contains (q ∷ held) r → Contains ps r
    all_listed r (zero, lt, is) = subst (Contains ps) is listed
    all_listed r (suc k, lt, is) = within k r (is_held k r (omega (arith, lt)) ∙ ap Some is)

-- ---- what a step leaves

-- a node that is warmed up over n frames
record IsWarming (S : ReferenceSet) (n : ℕ) (s : NodeView) : Type 0 where
  stands : StandsFor s.history S
  differ : PagesDiffer s.pool
  unfixed : IsUnfixed s.pool
  count : length s.pool.frames ≡ n

-- the pages of the list cannot be more than the frames
few_listed : (S : ReferenceSet) (n : ℕ) → length (hottest_pages S n) ≤ n
few_listed S n = omega (arith, length-take n (distinct (flip_args (eviction_cmp S)) (pages S)))

-- if p, the victim among the pages U, is in the list, so is each page r of U
victim_last : (S : ReferenceSet) (n : ℕ) (U : List PageId) (p : PageId) → IsVictim S U (Some p)
    → Contains (hottest_pages S n) p → (r : PageId) → Contains U r → Contains (hottest_pages S n) r
victim_last S n U p victim listed r has = elim (held_or_not p (Some r)) [
  | inl is ↦ let same : r ≡ p = cc in subst (Contains (hottest_pages S n)) (sym same) listed
  | inr other ↦ after_listed S n p r listed (victim.1 r has (λ is. other (ap Some is)))
]

-- While no page is pinned, a page of the list stays in its frame when another page of the list is
-- loaded. If it left, it was the victim. So all resident pages are in the list, and the other page
-- too: more than the list has.
stays : (S : ReferenceSet) (n : ℕ) (s : NodeView) {w : PoolView} {q : PageId} {slot : Slot}
    → IsWarming S n s → PutsIn s.history s.pool q 0 slot w → Contains (hottest_pages S n) q
    → (p : PageId) → Contains (hottest_pages S n) p → (i : ℕ) → (frame_at s.pool i).page ≡ Some p
    → (frame_at w i).page ≡ Some p
stays S n s {w} {q} {slot} warming puts new p listed =
    frames_after puts (λ i f. (frame_at s.pool i).page ≡ Some p → f.page ≡ Some p) (λ held. absurd (too_many held)) (λ j other held. held)
  where
    too_many : (frame_at s.pool slot.index).page ≡ Some p → ⊥
    too_many held =
        let U = unfixed_pages s.pool in
        let left = victim_left puts p held in
        let last = victim_last S n U p (victim_over s.history S warming.stands U (Some p) left.1) listed in
        crowded s.pool warming.differ left.0 q puts.absent (hottest_pages S n) (omega (arith, few_listed S n, warming.count)) new
        (λ i r is. last r (has_contains U r (unfixed_has s.pool.frames warming.unfixed i r is)))

-- there are as many frames as before
pub frames_count : {h : HistoryView} {v w : PoolView} {q : PageId} {fixes : ℕ} {slot : Slot}
    → PutsIn h v q fixes slot w → length w.frames ≡ length v.frames
frames_count {h} {v} {w} {q} {fixes} {slot} puts = ap (λ x. length x.frames) puts.becomes ∙ length-set v.frames slot.index _

-- the page is in the frame into which it was put
pub came_in : {h : HistoryView} {v w : PoolView} {q : PageId} {fixes : ℕ} {slot : Slot}
    → PutsIn h v q fixes slot w → (frame_at w slot.index).page ≡ Some q
came_in {h} {v} {w} {q} {fixes} {slot} puts = frames_after puts (λ i f. i ≡ slot.index → f.page ≡ Some q) (λ same. refl) (λ j other same. absurd (other same)) slot.index refl

-- still no page is in two frames
differ_after : {h : HistoryView} {v w : PoolView} {q : PageId} {slot : Slot} → PutsIn h v q 0 slot w
    → PagesDiffer v → PagesDiffer w
differ_after {h} {v} {w} {q} {slot} puts differ i j p first =
    frames_after puts (λ k f. f.page ≡ Some p → (l : ℕ) → (frame_at w l).page ≡ Some p → k ≡ l)
    (λ came. frames_after puts (λ l f. f.page ≡ Some p → slot.index ≡ l) (λ same. refl) (λ l other had. absurd (puts.absent l (had ∙ sym came))))
    (λ k other had. frames_after puts (λ l f. f.page ≡ Some p → k ≡ l) (λ came. absurd (puts.absent k (had ∙ sym came))) (λ l too. differ k l p had))
    i first j

-- a step has passed so one page more
record Advances (S : ReferenceSet) (n k : ℕ) (old new : NodeView) : Type 0 where
  warming : IsWarming S n new
  devices : new.pool.devices ≡ old.pool.devices
  past : IsPast (hottest_pages S n) (suc k) new.pool

-- the page to load next is one of the list
next_listed : (S : ReferenceSet) (n : ℕ) (s : NodeView) (next : Option PageId) → IsWarming S n s
    → IsNextWarm s next → IsFirstLoadable s.pool (hottest_pages S n) next
next_listed S n s next warming first =
    subst (λ ps. IsFirstLoadable s.pool ps next) ((truncation_keeps_order s.history S warming.stands).hottest_alike (length s.pool.frames) ∙ ap (hottest_pages S) warming.count) first

advance : (S : ReferenceSet) (n k : ℕ) (old new : NodeView) (loaded : Option PageId)
    → IsWarming S n old → Step old WarmStep (Loaded loaded) new
    → IsPast (hottest_pages S n) k old.pool → Advances S n k old new
advance S n k old new None warming step past = record {
  warming = subst (IsWarming S n) (sym step.1) warming;
  devices = ap (λ s. s.pool.devices) step.1;
  past = subst (λ s. IsPast (hottest_pages S n) (suc k) s.pool) (sym step.1) (λ j below there. next_listed S n old None warming step.0 j there);
}
advance S n k old new (Some q) warming step past =
    let list = hottest_pages S n in
    let puts = step.1.1.1 in
    let next = next_listed S n old (Some q) warming step.0 in
    let new_listed : Contains list q = subst (Contains list) next.2 (Contains-get_or list next.0 _ next.1) in
    let devices : new.pool.devices ≡ old.pool.devices = ap (λ x. x.devices) puts.becomes in
    record {
      warming = record {
        stands = ap (λ s. s.history) step.1.0 ∙ warming.stands;
        differ = differ_after puts warming.differ;
        unfixed = frames_after puts (λ i f. f.fixes ≡ 0) refl (λ j other. warming.unfixed j);
        count = frames_count puts ∙ warming.count;
      };
      devices = devices;
      past = λ j below there loadable. elim (cases_order j next.0) [
        | inl same ↦ loadable.1 step.1.1.0.index (came_in puts ∙ ap Some (sym next.2 ∙ ap (nth_page list) (sym same)))
        | inr (inl before) ↦ next.4 j before (
          has_same new.pool old.pool (nth_page list j) (sym devices) loadable.0,
          λ i held. loadable.1 i (stays S n old warming puts new_listed (nth_page list j) (Contains-get_or list j _ there) i held),
        )
        | inr (inr after) ↦ past next.0 (omega (arith, after, below)) next.1 (subst (IsLoadable old.pool) (sym next.2) next.3)
      ];
    }

-- ---- as many steps as the list has pages

loads : (S : ReferenceSet) (n m k : ℕ) (old new : NodeView) → IsWarming S n old
    → WarmSteps m old new → IsPast (hottest_pages S n) k old.pool → n ≤ k + m
    → (p : PageId) → Contains (hottest_pages S n) p → HasPage old.pool p → IsResident new.pool p
loads S n zero k old new warming same past all p listed has = elim (resident_or_absent new.pool p) [
  | inl there ↦ there
  | inr absent ↦
      let none = All-from_get_or (λ q. IsLoadable old.pool q → ⊥) (hottest_pages S n) (record { dev = 0; no = 0 }) (λ j there. past j (omega (arith, there, few_listed S n, all)) there) in
      absurd (All-contains (λ q. IsLoadable old.pool q → ⊥) (hottest_pages S n) p none listed (has, subst (λ s. IsAbsent s.pool p) same absent))
]
loads S n (suc m) k old new warming (loaded, next, step, steps) past all p listed has =
    let goes = advance S n k old next loaded warming step past in
    loads S n m (suc k) next new goes.warming steps goes.past (omega (arith, all)) p listed (has_same old.pool next.pool p goes.devices has)

pub warm_up_loads : NodeWarmUpLoads
warm_up_loads S old new stands differ unfixed steps p warm_page =
    let n = length old.pool.frames in
    let warming : IsWarming S n old = record { stands = stands; differ = differ; unfixed = unfixed; count = refl } in
    loads S n n 0 old new warming steps (λ j below. absurd (omega (arith, below))) (omega arith) p warm_page.listed warm_page.had

pub warm_step_keeps_hottest : WarmStepKeepsHottest
warm_step_keeps_hottest S old new (Refused why) stands differ unfixed step p listed (was, gone) = gone was.frame ((refused old new WarmStep why step).1 was.frame ∙ was.holds)
warm_step_keeps_hottest S old new (Loaded None) stands differ unfixed step p listed (was, gone) = gone was.frame ((none_changed old new step.1).1 was.frame ∙ was.holds)
warm_step_keeps_hottest S old new (Loaded (Some q)) stands differ unfixed step p listed (was, gone) =
    let n = length old.pool.frames in
    let warming : IsWarming S n old = record { stands = stands; differ = differ; unfixed = unfixed; count = refl } in
    let next = next_listed S n old (Some q) warming step.0 in
    let new_listed : Contains (hottest_pages S n) q = subst (Contains (hottest_pages S n)) next.2 (Contains-get_or (hottest_pages S n) next.0 _ next.1) in
    gone was.frame (stays S n old warming step.1.1.1 new_listed p listed was.frame was.holds)
warm_step_keeps_hottest S old new reply stands differ unfixed step p listed leaves = absurd step

-- ---- facts about a pool

-- no page of a pool is in two frames
pub pages_differ : (s : PoolState) → IsPool s → PagesDiffer (view_of s)
pages_differ s pool i j p first second = pool.once i j p (sym (ap (λ f. f.page) (frame_seen s i)) ∙ first) (sym (ap (λ f. f.page) (frame_seen s j)) ∙ second)
