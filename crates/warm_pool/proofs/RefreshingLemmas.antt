-- The ranks of resident pages are renewed.
use Rattle.std.proofs.Common.{◌≡◌, ◌≢◌, ◌⊎◌, ℕ, ◌+◌, ◌<◌, ◌≤◌, true, false, List, [], length, map, set, get_or, Contains, Option, Some, None, refl, sym, ◌∙◌, ap, subst, inl, inr, arith}
use Rattle.std.specs.Option.{option_map}
use Rattle.std.proofs.Math.ListN.{get_or-map as mapped}
use Rattle.std.proofs.lemmas.Bool.{cases_eq, cases_lt, cases_Bool}
use Rattle.std.proofs.lemmas.Option.{same_Some}
use Rattle.std.proofs.lemmas.List.{get_or-map, set-get_or, get_or_past, length-map}
use Rattle.warm_stamps.specs.declared.PageId.{PageId}
use Rattle.warm_history.specs.Histories.{HistoryView, hist, references_of}
use Rattle.warm_rank.specs.declared.RankKey.{RankKey}
use Rattle.warm_rank.specs.Keys.{rank_key}
use Rattle.warm_devices.specs.Device.{DeviceState}
use Rattle.warm_frame_table.specs.Frames.{FrameState, FramesState, nth_frame, fresh_frame}
use Rattle.warm_frame_table.proofs.ListLemmas.{at_set}
use Rattle.warm_pool.specs.State.{PoolState, IsPool, RankedBy, IsNowhere}
use Rattle.warm_pool.specs.View.{is_page, frame_view, view_of, PoolView, FrameView}
use Rattle.warm_pool.specs.Unchanged.{KeepsBytes}
use Rattle.warm_pool.specs.Refreshing.{AgreeOutside, UpdatesNamedRanks}
use Rattle.warm_pool.specs.steps.Refreshing.{UpdatesRank, UpdatesRankIn}
use Rattle.warm_pool.proofs.PageByteLemmas.{page_found, found_page}
use Rattle.warm_pool.proofs.UnchangedLemmas.{same_bytes, more_bytes}
use Rattle.warm_pool.proofs.PoolLemmas.{IsAlike, pool_from, step_pool, step_view}

-- one page is renewed
module _ (old new : FramesState) {spare : ℕ} {devices : List DeviceState}
    (w : IsPool (pool_from old spare devices)) (i : ℕ) (p : PageId) (k key : RankKey)
    (k_is : k ≡ key)
    (is : new ≡ record old {
      frames = set old.frames i
          (record (nth_frame old.frames i) { key = Some k });
    })
    (there : i < length old.frames) (holds : (nth_frame old.frames i).page ≡ Some p) where
  alike : IsAlike (nth_frame old.frames i) (record (nth_frame old.frames i) { key = Some k })
  alike = record { page = refl; bytes = refl; dirty = refl; bare = λ e. let never : Some p ≡ None = sym holds ∙ e in absurd (cc) }

  pub renewed_pool : IsPool (pool_from new spare devices)
  renewed_pool = step_pool old new w i (record (nth_frame old.frames i) { key = Some k }) is there alike

  pub renewed_view : view_of (pool_from new spare devices) ≡ view_of (pool_from old spare devices)
  renewed_view =
      step_view old new w i (record (nth_frame old.frames i) { key = Some k }) is there alike
      ∙ ap (λ (fs : List FrameView). let v : PoolView = record (view_of (pool_from old spare devices)) { frames = fs } in v)
      (ap (set (map frame_view old.frames) i) (sym (mapped frame_view old.frames i (fresh_frame []))) ∙ set-get_or (map frame_view old.frames) i (frame_view (fresh_frame [])))

  pub renews : UpdatesRank (pool_from old spare devices) p key (pool_from new spare devices)
  renews = subst (λ x. UpdatesRank (pool_from old spare devices) p key (pool_from x spare devices)) (sym is) (record {
    pages = at_set (fresh_frame []) (λ j x. x.page ≡ (nth_frame old.frames j).page) old.frames i (record (nth_frame old.frames i) { key = Some k }) there refl (λ j ne. refl);
    here = at_set (fresh_frame []) (λ j x. (nth_frame old.frames j).page ≡ Some p → x.key ≡ Some key) old.frames i (record (nth_frame old.frames i) { key = Some k }) there
        (λ e. ap Some k_is) (λ j ne e. absurd (ne (w.once j i p e holds)));
    others = at_set (fresh_frame []) (λ j x. (nth_frame old.frames j).page ≢ Some p → x.key ≡ (nth_frame old.frames j).key) old.frames i (record (nth_frame old.frames i) { key = Some k }) there
        (λ n. absurd (n holds)) (λ j ne n. refl);
  })

pub renews_none : {s : PoolState} → IsPool s → (p : PageId) (key : RankKey) → IsNowhere s.frames p
    → UpdatesRank s p key s
renews_none {s} w p key away = record { pages = λ i. refl; here = λ i e. absurd (away i e); others = λ i n. refl }

-- the first k of the pages were renewed
pub record Renewed (s t : PoolState) (h : HistoryView) (pages : List PageId) (k : ℕ) : Type 0 where
  pub same : view_of t ≡ view_of s
  pub kept : KeepsBytes s t
  pub held : (i : ℕ) → (nth_frame t.frames i).page ≡ (nth_frame s.frames i).page
  pub others : (i : ℕ) → ((p : PageId) → (nth_frame s.frames i).page ≡ Some p → Contains pages p
      → ⊥) → (nth_frame t.frames i).key ≡ (nth_frame s.frames i).key
  pub keys : (i : ℕ) (p : PageId) → (nth_frame s.frames i).page ≡ Some p
      → ((nth_frame t.frames i).key ≡ Some (rank_key p (hist (references_of h) p)))
      ⊎ (((nth_frame t.frames i).key ≡ (nth_frame s.frames i).key)
      × ((j : ℕ) → j < k → get_or pages j p ≢ p))

pub none_renewed : (s : PoolState) (h : HistoryView) (pages : List PageId) → Renewed s s h pages 0
none_renewed s h pages = record { same = refl; kept = same_bytes s; held = λ i. refl; others = λ i e. refl; keys = λ i p e. inr (refl, λ j lt. absurd (omega arith)) }

page_cases : (p q : PageId) → (p ≡ q) ⊎ (p ≢ q)
page_cases p q = elim (cases_Bool (is_page q (Some p))) [
  | inl e ↦ inl (same_Some p q (page_found q (Some p) e))
  | inr e ↦ inr (λ is. let no : true ≡ false = sym (found_page q (Some p) (ap Some is)) ∙ e in absurd (cc))
]

pub one_renewed : {s t u : PoolState} (h : HistoryView) (pages : List PageId) (k : ℕ) (q : PageId)
    → Renewed s t h pages k → k < length pages → ((d : PageId) → get_or pages k d ≡ q)
    → view_of u ≡ view_of t → KeepsBytes t u
    → UpdatesRank t q (rank_key q (hist (references_of h) q)) u → Renewed s u h pages (k + 1)
one_renewed {s} {t} {u} h pages k q r low at same kept n = record {
  same = same ∙ r.same;
  kept = more_bytes s t u r.kept kept;
  held = λ i. n.pages i ∙ r.held i;
  others = λ i not. n.others i (λ o. not q (sym (r.held i) ∙ o) (k, low, at q)) ∙ r.others i not;
  keys = λ i p e. elim (page_cases p q) [
    | inl is ↦ inl (n.here i (r.held i ∙ e ∙ ap Some is) ∙ ap (λ x. Some (rank_key x (hist (references_of h) x))) (sym is))
    | inr ne ↦
        let stays : (nth_frame u.frames i).key ≡ (nth_frame t.frames i).key = n.others i (λ o. ne (same_Some p q (sym (r.held i ∙ e) ∙ o))) in
        elim (r.keys i p e) [
          | inl new ↦ inl (stays ∙ new)
          | inr old ↦ inr (
            stays ∙ old.0,
            λ j lt. elim (cases_eq j k) [
              | inl here ↦ λ found. ne (sym found ∙ ap (λ m. get_or pages m p) here ∙ at p)
              | inr apart ↦ old.1 j (omega arith)
            ],
          )
        ]
  ];
}

-- after all of them the history ranks the pool
pub all_renewed : {s t : PoolState} (h : HistoryView) (pages : List PageId) (k : ℕ)
    → Renewed s t h pages k → length pages ≤ k
    → (g : HistoryView) → RankedBy s g → AgreeOutside pages g h → RankedBy t h
all_renewed {s} {t} h pages k r all g ranked agree i = of_page (nth_frame s.frames i).page refl
  where
    of_page : (o : Option PageId) → (nth_frame s.frames i).page ≡ o
        → (nth_frame t.frames i).key
        ≡ option_map (λ p. rank_key p (hist (references_of h) p)) (nth_frame t.frames i).page
    of_page None e =
        r.others i (λ p is _. let never : None ≡ Some p = sym e ∙ is in absurd (cc)) ∙ ranked i ∙ ap (option_map (λ p. rank_key p (hist (references_of g) p))) e ∙ ap (option_map (λ p. rank_key p (hist (references_of h) p))) (sym (r.held i ∙ e))
    of_page (Some p) e =
        let some : (nth_frame t.frames i).page ≡ Some p = r.held i ∙ e in
        elim (r.keys i p e) [
          | inl new ↦ new ∙ ap (option_map (λ q. rank_key q (hist (references_of h) q))) (sym some)
          | inr old ↦
              old.0 ∙ ranked i ∙ ap (option_map (λ q. rank_key q (hist (references_of g) q))) e
              ∙ ap (λ x. Some (rank_key p x)) (agree p (λ c. old.1 c.0 (below c.0 c.1) c.2))
              ∙ ap (option_map (λ q. rank_key q (hist (references_of h) q))) (sym some)
        ]
      where
        below : (j : ℕ) → j < length pages → j < k
        below j lt = omega arith

-- after all of them each of them that is resident has its rank
pub each_renewed : {s t : PoolState} (h : HistoryView) (pages : List PageId) (k : ℕ)
    → Renewed s t h pages k → length pages ≤ k → UpdatesNamedRanks pages h t
each_renewed {s} {t} h pages k r all i p holds named = elim (r.keys i p (sym (r.held i) ∙ holds)) [
  | inl new ↦ new
  | inr old ↦ absurd (old.1 named.0 (below named.0 named.1) named.2)
]
  where
    below : (j : ℕ) → j < length pages → j < k
    below j lt = omega arith

-- the same for the pages that items name
pub named_renewed : {A : Type 0} {s t u : PoolState} (h : HistoryView) (named : A → PageId)
    (items : List A) (k : ℕ) (item : A) {q : PageId} → Renewed s t h (map named items) k
    → k < length items
    → item ≡ get_or items k item → q ≡ named item → view_of u ≡ view_of t → KeepsBytes t u
    → UpdatesRank t q (rank_key q (hist (references_of h) q)) u
    → Renewed s u h (map named items) (k + 1)
named_renewed h named items k item {q} r low is names =
    one_renewed h (map named items) k q r (omega (arith, low, length-map items named)) (λ d. get_or-map named items k item d low ∙ ap named (sym is) ∙ sym names)

pub all_named : {A : Type 0} {s t : PoolState} (h : HistoryView) (named : A → PageId)
    (items : List A) (k : ℕ) → Renewed s t h (map named items) k → length items ≤ k
    → (g : HistoryView) → RankedBy s g → AgreeOutside (map named items) g h → RankedBy t h
all_named h named items k r all = all_renewed h (map named items) k r (omega (arith, all, length-map items named))

pub each_named : {A : Type 0} {s t : PoolState} (h : HistoryView) (named : A → PageId)
    (items : List A) (k : ℕ) → Renewed s t h (map named items) k → length items ≤ k
    → UpdatesNamedRanks (map named items) h t
each_named h named items k r all = each_renewed h (map named items) k r (omega (arith, all, length-map items named))

-- the pages of the first k frames were renewed
pub record RenewedFirst (s t : PoolState) (h : HistoryView) (k : ℕ) : Type 0 where
  pub same : view_of t ≡ view_of s
  pub kept : KeepsBytes s t
  pub count : length t.frames ≡ length s.frames
  pub keys : (i : ℕ) → i < k
      → (nth_frame t.frames i).key
      ≡ option_map (λ p. rank_key p (hist (references_of h) p)) (nth_frame t.frames i).page

pub none_first : (s : PoolState) (h : HistoryView) → RenewedFirst s s h 0
none_first s h = record { same = refl; kept = same_bytes s; count = refl; keys = λ i lt. absurd (omega (arith, lt)) }

-- the page in a frame is renewed, or there is none
pub frame_renewed : {s u : PoolState} (at : ℕ) (h : HistoryView) (q : PageId) → IsPool s
    → (nth_frame s.frames at).page ≡ Some q
    → UpdatesRank s q (rank_key q (hist (references_of h) q)) u → UpdatesRankIn s at h u
frame_renewed {s} {u} at h q w there n = record {
  pages = n.pages;
  here = n.here at there ∙ sym (ap (option_map (λ p. rank_key p (hist (references_of h) p))) (n.pages at ∙ there));
  others = λ i apart. n.others i (λ o. apart (w.once i at q o there));
}

pub frame_bare : {s : PoolState} (at : ℕ) (h : HistoryView) → IsPool s
    → (nth_frame s.frames at).page ≡ None → UpdatesRankIn s at h s
frame_bare {s} at h w none = record {
  pages = λ i. refl;
  here = (w.bare at none).0 ∙ sym (ap (option_map (λ p. rank_key p (hist (references_of h) p))) none);
  others = λ i apart. refl;
}

-- one frame more
pub next_first : {s t u : PoolState} (h : HistoryView) (k : ℕ) → RenewedFirst s t h k
    → view_of u ≡ view_of t → KeepsBytes t u → UpdatesRankIn t k h u → RenewedFirst s u h (k + 1)
next_first {s} {t} {u} h k r same kept n = record {
  same = same ∙ r.same;
  kept = more_bytes s t u r.kept kept;
  count = sym (length-map u.frames frame_view) ∙ ap (λ (v : PoolView). length v.frames) same ∙ length-map t.frames frame_view ∙ r.count;
  keys = λ i lt. elim (cases_eq i k) [
    | inl here ↦ subst (λ j. (nth_frame u.frames j).key ≡ option_map (λ p. rank_key p (hist (references_of h) p)) (nth_frame u.frames j).page) (sym here) n.here
    | inr apart ↦ n.others i apart ∙ r.keys i (omega (arith, lt, apart)) ∙ sym (ap (option_map (λ p. rank_key p (hist (references_of h) p))) (n.pages i))
  ];
}

-- after all of them the history ranks the pool
pub all_first : {s t : PoolState} (h : HistoryView) (k : ℕ) → RenewedFirst s t h k
    → length t.frames ≤ k → RankedBy t h
all_first {s} {t} h k r all i = elim (cases_lt i (length t.frames)) [
  | inl lt ↦ r.keys i (omega (arith, lt, all))
  | inr le ↦ subst (λ (f : FrameState). f.key ≡ option_map (λ p. rank_key p (hist (references_of h) p)) f.page) (sym (get_or_past t.frames i (fresh_frame []) le)) refl
]
