-- What a history says as before: of a page to which it takes in no reference, if its horizon does
-- not rise; of all pages, if its entries stay. No page falls.
use Rattle.std.proofs.Common.{◌≡◌, ℕ, ◌≤◌, List, [], ◌∷◌, map, filter, Option, Some, None, IfSome, inl, inr, sym, subst, ap, ◌∙◌, arith}
use Rattle.std.proofs.lemmas.List.{map-append}
use Rattle.std.specs.Option.{option_map}
use Rattle.std.specs.Ordering.{is_eq, flip_args}
use Rattle.warm_stamps.specs.declared.PageId.{PageId}
use Rattle.warm_stamps.specs.declared.Reference.{Reference}
use Rattle.warm_stamps.specs.Stamps.{stamp_cmp, page_cmp}
use Rattle.warm_stamps.specs.Distinct.{distinct}
use Rattle.warm_stamps.proofs.DistinctLemmas.{Has}
use Rattle.warm_history.specs.Entry.{Entry}
use Rattle.warm_history.specs.PageHist.{PageHist}
use Rattle.warm_history.specs.PageHist.TheVariants.{Once, Twice}
use Rattle.warm_history.specs.ReferenceSets.{references, set_of_list, ◌∪◌}
use Rattle.warm_history.specs.ListHistories.{list_references_of}
use Rattle.warm_history.specs.Histories.{HistoryView, IsHistory, history_of_entries_at, first_two, hist, history, entries_of, references_of_entry, references_of}
use Rattle.warm_history.proofs.HistoryLemmas.{hist_refs-history, references-refs}
use Rattle.warm_rank.specs.Keys.{rank_key}
use Rattle.warm_rank.specs.Relisting.{RaisesOnly}
use Rattle.warm_rank.proofs.OutrankedLemmas.{contains_has, has_contains, has_either}
use Rattle.warm_rank.proofs.RaisedLemmas.{raises_alike, raises_more, taking_in_raises}
use Rattle.warm_frame_table.specs.Frames.{nth_frame}
use Rattle.warm_pool.specs.Refreshing.{AgreeOutside}
use Rattle.warm_pool.specs.State.{PoolState, RankedBy}
use Rattle.warm_pool.specs.View.{PoolView, view_of}
use Rattle.warm_gossip.specs.declared.warm_step.WarmUp.{WarmUp}
use Rattle.warm_gossip.specs.WarmingUp.{IsListed, IsWarming}

-- ---- the pages of the references that entries hold

own_page : (page : PageId) (h : PageHist) (p : PageId)
    → Has (map (λ r. r.page) (references_of_entry (record { page = page; hist = h }))) p → page ≡ p
own_page page (Once s) p (inl is) = is
own_page page (Once s) p (inr none) = absurd none
own_page page (Twice two) p (inl is) = is
own_page page (Twice two) p (inr (inl is)) = is
own_page page (Twice two) p (inr (inr none)) = absurd none

-- are pages of the entries
entry_named : (es : List Entry) (p : PageId) → Has (map (λ r. r.page) (list_references_of es)) p
    → Has (map (λ e. e.page) es) p
entry_named [] p has = absurd has
entry_named (e ∷ es) p has =
    let own = map (λ (r : Reference). r.page) (references_of_entry e) in
    let later = map (λ (r : Reference). r.page) (list_references_of es) in
    elim (has_either own later p (subst (λ ps. Has ps p) (map-append (λ (r : Reference). r.page) (references_of_entry e) (list_references_of es)) has)) [
      | inl here ↦ inl (own_page e.page e.hist p here)
      | inr there ↦ inr (entry_named es p there)
    ]

-- ---- what a history takes in raises only pages that it names

pub absorbed_raises : (h : HistoryView) (batch : List Reference)
    → RaisesOnly (map (λ r. r.page) batch) (references_of h)
    (references_of (history (references_of h ∪ set_of_list batch)))
absorbed_raises h batch =
    let S = references_of h in
    let all = S ∪ set_of_list batch in
    raises_alike (map (λ r. r.page) batch) S all (references_of (history all)) (taking_in_raises S (set_of_list batch) (omega arith)) (λ p. sym (hist_refs-history all p))

-- entries of no later horizon
pub joined_raises : (h : HistoryView) (horizon : ℕ) (es : List Entry) → horizon ≤ h.horizon
    → RaisesOnly (map (λ e. e.page) es) (references_of h)
    (references_of (history (references_of h ∪ references_of (history_of_entries_at horizon es))))
joined_raises h horizon es le =
    let S = references_of h in
    let T = references_of (history_of_entries_at horizon es) in
    let all = S ∪ T in
    let given = map (λ (r : Reference). r.page) T.given in
    let pages = map (λ (e : Entry). e.page) es in
    raises_alike pages S all (references_of (history all))
    (raises_more given pages S all (taking_in_raises S T le) (λ p has. has_contains pages p (entry_named es p (contains_has given p has))))
    (λ p. sym (hist_refs-history all p))

-- outside these pages the history agrees with itself
pub absorbed_agrees : (h : HistoryView) (batch : List Reference)
    → AgreeOutside (map (λ r. r.page) batch) h (history (references_of h ∪ set_of_list batch))
absorbed_agrees h batch p other = sym ((absorbed_raises h batch).others_stay p other)

pub joined_agrees : (h : HistoryView) (horizon : ℕ) (es : List Entry) → horizon ≤ h.horizon
    → AgreeOutside (map (λ e. e.page) es) h
    (history (references_of h ∪ references_of (history_of_entries_at horizon es)))
joined_agrees h horizon es le p other = sym ((joined_raises h horizon es le).others_stay p other)

-- ---- the same entries at another horizon

-- histories with the same entries agree on each page, whatever their horizons
hist_of_entries : (h g : HistoryView) → IsHistory h → IsHistory g → entries_of g ≡ entries_of h
    → (p : PageId) → hist (references_of h) p ≡ hist (references_of g) p
hist_of_entries h g whole later same p =
    let kept : references (references_of h) ≡ references (references_of g) = references-refs h whole ∙ sym (ap list_references_of same) ∙ sym (references-refs g later) in
    ap (λ rs. first_two (distinct (flip_args stamp_cmp) (map (λ r. r.stamp) (filter (λ r. is_eq (page_cmp r.page p)) rs)))) kept

-- so they rank a pool equally
ranked_by_entries : (s : PoolState) (h g : HistoryView)
    → ((p : PageId) → hist (references_of h) p ≡ hist (references_of g) p) → RankedBy s h
    → RankedBy s g
ranked_by_entries s h g alike ranked i =
    ranked i ∙ ap (λ (f : PageId → Option PageHist). option_map (λ p. rank_key p (f p)) (nth_frame s.frames i).page) (λ j p. alike p j)

-- and keep what is kept of a warm-up
warming_by_entries : (h g : HistoryView) (v : PoolView) (x : WarmUp)
    → ((p : PageId) → hist (references_of h) p ≡ hist (references_of g) p) → IsWarming h v x
    → IsWarming g v x
warming_by_entries h g v x alike under = elim x.list as (λ o. IfSome o (λ keys. IsListed h v x.changed.items keys x.passed) → IfSome o (λ keys. IsListed g v x.changed.items keys x.passed)) [
  | None ↦ λ none. none
  | Some keys ↦ λ u. record {
    hottest = record {
      earlier = u.hottest.earlier;
      listed = u.hottest.listed;
      raised = raises_alike x.changed.items u.hottest.earlier (references_of h) (references_of g) u.hottest.raised alike;
    };
    past = u.past;
  }
] under

-- so all that a node keeps by its history stands by another of the same entries
pub kept_by_entries : (s : PoolState) (h g : HistoryView) (x : WarmUp) → IsHistory h → IsHistory g
    → entries_of g ≡ entries_of h
    → RankedBy s h × IsWarming h (view_of s) x → RankedBy s g × IsWarming g (view_of s) x
kept_by_entries s h g x whole later same (ranked, under) =
    let alike = hist_of_entries h g whole later same in
    (ranked_by_entries s h g alike ranked, warming_by_entries h g (view_of s) x alike under)
