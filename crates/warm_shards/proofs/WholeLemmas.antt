-- The history of all shards: what it says of a page, and how it changes when one shard does.
use Rattle.std.proofs.Common.{◌≡◌, ◌≢◌, ℕ, zero, suc, ◌<◌, ◌≤◌, Bool, true, false, List, [], ◌∷◌, ◌++◌, length, map, filter, None, refl, sym, ap, ◌∙◌, arith, set, take}
use Rattle.std.specs.List.{AllByRecursion}
use Rattle.std.specs.Ordering.{is_eq, flip_args}
use Rattle.std.proofs.lemmas.List.{append-nil}
use Rattle.std.proofs.lemmas.List.Elements.{filter-append}
use Rattle.warm_stamps.specs.declared.Stamp.{Stamp}
use Rattle.warm_stamps.specs.declared.PageId.{PageId}
use Rattle.warm_stamps.specs.declared.Reference.{Reference}
use Rattle.warm_stamps.specs.Distinct.{distinct}
use Rattle.warm_stamps.specs.Stamps.{stamp_cmp, page_cmp}
use Rattle.warm_stamps.proofs.DistinctLemmas.{is_equal}
use Rattle.warm_stamps.proofs.StampLemmas.{page_order}
use Rattle.warm_history.specs.Entry.{Entry}
use Rattle.warm_history.specs.ListHistories.{first_two, hist_stamps, list_references_of, references_of_entry}
use Rattle.warm_history.specs.ReferenceSets.{is_kept, references_from, ReferenceSet, set_of_list, ◌∪◌}
use Rattle.warm_history.specs.Histories.{hist, references_of, history, history_of_entries, join}
use Rattle.warm_history.proofs.KeptLemmas.{kept-append}
use Rattle.warm_history.proofs.HistoryLemmas.{hist_refs-history}
use Rattle.warm_gossip.specs.State.{NodeState}
use Rattle.warm_shards.specs.Shards.{AreShards, held, shard_at, whole}
use Rattle.warm_visits.specs.ShardNumbers.{shard_of}
use Rattle.warm_history.proofs.JoinLemmas.{both_assoc, history_first, history_second, history_swap}

-- the references to a page that are kept
abbrev pub kept_to : ℕ → PageId → List Reference → List Reference
kept_to m p rs = filter (λ r. is_eq (page_cmp r.page p)) (references_from m rs)

kept_to-append : (m : ℕ) (p : PageId) (S T : List Reference)
    → kept_to m p (S ++ T) ≡ kept_to m p S ++ kept_to m p T
kept_to-append m p S T =
    let test : Reference → Bool = λ r. is_eq (page_cmp r.page p) in
    ap (filter test) (kept-append m S T) ∙ filter-append test (references_from m S) (references_from m T)

-- the entries are of other pages
abbrev pub IsUnknown : PageId → List Entry → Type 0
IsUnknown p es = AllByRecursion (λ e. is_eq (page_cmp e.page p) ≡ false) es

none_of_entry : (m : ℕ) (p q : PageId) (ss : List Stamp) → is_eq (page_cmp q p) ≡ false
    → kept_to m p (map (λ s. record { page = q; stamp = s }) ss) ≡ []
none_of_entry m p q [] other = refl
none_of_entry m p q (s ∷ ss) other = cases (is_kept m s) refl (none_of_entry m p q ss other)
  where
    cases : (b : Bool) → is_kept m s ≡ b
        → kept_to m p (map (λ s. record { page = q; stamp = s }) ss) ≡ []
        → kept_to m p (map (λ s. record { page = q; stamp = s }) (s ∷ ss)) ≡ []
    cases true is rest = rw is (rw other rest)
    cases false is rest = rw is rest

none_of_entries : (m : ℕ) (p : PageId) (es : List Entry) → IsUnknown p es
    → kept_to m p (list_references_of es) ≡ []
none_of_entries m p [] none = refl
none_of_entries m p (e ∷ es) none =
    kept_to-append m p (references_of_entry e) (list_references_of es)
    ∙ ap (λ rs. rs ++ kept_to m p (list_references_of es)) (none_of_entry m p e.page (hist_stamps e.hist) none.0)
    ∙ none_of_entries m p es none.1

none_held : (m : ℕ) (p : PageId) (ns : List NodeState)
    → ((i : ℕ) → i < length ns → IsUnknown p (shard_at ns i).history.entries)
    → kept_to m p (held ns).given ≡ []
none_held m p [] none = refl
none_held m p (n ∷ ns) none =
    kept_to-append m p (list_references_of n.history.entries) (held ns).given
    ∙ ap (λ rs. rs ++ kept_to m p (held ns).given) (none_of_entries m p n.history.entries (none 0 (omega arith)))
    ∙ none_held m p ns (λ i lt. none (suc i) (omega arith))

-- what all hold of a page is what the one shard holds of it that knows it
one_held : (m : ℕ) (p : PageId) (ns : List NodeState) (j : ℕ) → j < length ns
    → ((i : ℕ) → i < length ns → i ≢ j → IsUnknown p (shard_at ns i).history.entries)
    → kept_to m p (held ns).given ≡ kept_to m p (list_references_of (shard_at ns j).history.entries)
one_held m p [] j lt none = absurd (omega arith)
one_held m p (n ∷ ns) zero lt none =
    let own = list_references_of n.history.entries in
    kept_to-append m p own (held ns).given
    ∙ ap (λ rs. kept_to m p own ++ rs) (none_held m p ns (λ i less. none (suc i) (omega arith) (λ e. absurd (omega arith))))
    ∙ append-nil (kept_to m p own)
one_held m p (n ∷ ns) (suc j) lt none =
    kept_to-append m p (list_references_of n.history.entries) (held ns).given
    ∙ ap (λ rs. rs ++ kept_to m p (held ns).given) (none_of_entries m p n.history.entries (none 0 (omega arith) (λ e. absurd (omega arith))))
    ∙ one_held m p ns j (omega arith) (λ i less other. none (suc i) (omega arith) (λ e. other (omega arith)))

-- of shards with one horizon, all together have it too
abbrev pub HaveHorizon : ℕ → List NodeState → Type 0
HaveHorizon m ns = (i : ℕ) → i < length ns → (shard_at ns i).history.horizon ≡ m

none_later : (m : ℕ) (ns : List NodeState) → HaveHorizon m ns → (held ns).horizon ≤ m
none_later m [] same = omega arith
none_later m (n ∷ ns) same =
    let first = same 0 (omega arith) in
    let rest = none_later m ns (λ i lt. same (suc i) (omega arith)) in
    omega arith

held_horizon : (m : ℕ) (ns : List NodeState) → 0 < length ns → HaveHorizon m ns
    → (held ns).horizon ≡ m
held_horizon m [] some same = absurd (omega arith)
held_horizon m (n ∷ ns) some same =
    let first = same 0 (omega arith) in
    let rest = none_later m ns (λ i lt. same (suc i) (omega arith)) in
    omega arith

-- a page of another shard is unknown
unknown : (count i : ℕ) (p : PageId) (es : List Entry) → i ≢ shard_of count p
    → AllByRecursion (λ e. shard_of count e.page ≡ i) es → IsUnknown p es
unknown count i p [] other all = tt
unknown count i p (e ∷ es) other all = (cases (is_eq (page_cmp e.page p)) refl, unknown count i p es other all.1)
  where
    cases : (b : Bool) → is_eq (page_cmp e.page p) ≡ b → is_eq (page_cmp e.page p) ≡ false
    cases true is =
        let same : e.page ≡ p = page_order.same e.page p (is_equal (page_cmp e.page p) is) in
        absurd (other (sym all.0 ∙ ap (shard_of count) same))
    cases false is = is

-- the horizon of shards
pub whole_horizon : (ns : List NodeState) → AreShards ns → 0 < length ns
    → (held ns).horizon ≡ (shard_at ns 0).history.horizon
whole_horizon ns are some =
    held_horizon (shard_at ns 0).history.horizon ns some (λ i lt. (are.each i lt).horizon)

pub hist_held : (ns : List NodeState) (j : ℕ) (p : PageId) → AreShards ns → j < length ns
    → shard_of (length ns) p ≡ j → hist (held ns) p ≡ hist (references_of (shard_at ns j).history) p
hist_held ns j p are lt is =
    let m = (shard_at ns 0).history.horizon in
    let es = (shard_at ns j).history.entries in
    let same : (held ns).horizon ≡ (shard_at ns j).history.horizon = whole_horizon ns are (omega arith) ∙ sym (are.each j lt).horizon in
    let latest : List Reference → _ = λ rs. first_two (distinct (flip_args stamp_cmp) (map (λ (r : Reference). r.stamp) rs)) in
    ap (λ x. latest (kept_to x p (held ns).given)) same
    ∙ ap latest (one_held (shard_at ns j).history.horizon p ns j lt (λ i less other. unknown (length ns) i p _ (λ e. other (e ∙ is)) (are.each i less).own.known))

-- what all shards together say of a page is what its shard says of it
pub hist_whole : (ns : List NodeState) (j : ℕ) (p : PageId) → AreShards ns → j < length ns
    → shard_of (length ns) p ≡ j
    → hist (references_of (whole ns)) p ≡ hist (references_of (shard_at ns j).history) p
hist_whole ns j p are lt is = hist_refs-history (held ns) p ∙ hist_held ns j p are lt is

-- a shard knows nothing of a page of another
pub hist_elsewhere : (ns : List NodeState) (j : ℕ) (p : PageId) → AreShards ns → j < length ns
    → shard_of (length ns) p ≢ j → hist (references_of (shard_at ns j).history) p ≡ None
hist_elsewhere ns j p are lt other =
    let h = (shard_at ns j).history in
    let latest : List Reference → _ = λ rs. first_two (distinct (flip_args stamp_cmp) (map (λ (r : Reference). r.stamp) rs)) in
    ap latest (none_of_entries h.horizon p h.entries (unknown (length ns) j p h.entries (λ e. other (sym e)) (are.each j lt).own.known))

-- ---- one shard takes references in: so do all together

pub last_two : (R B H : ReferenceSet) → history ((R ∪ B) ∪ H) ≡ history ((R ∪ H) ∪ B)
last_two R B H =
    ap history (both_assoc R B H)
    ∙ sym (history_second R (B ∪ H))
    ∙ ap (λ h. history (R ∪ references_of h)) (history_swap B H)
    ∙ history_second R (H ∪ B)
    ∙ ap history (sym (both_assoc R H B))

-- if one shard has taken references in, all together have
pub one_takes : (ns : List NodeState) (i : ℕ) (B : ReferenceSet) (m : NodeState) → i < length ns
    → m.history ≡ history (references_of (shard_at ns i).history ∪ B)
    → whole (set ns i m) ≡ history (references_of (whole ns) ∪ B)
one_takes [] i B m lt is = absurd (omega arith)
one_takes (n ∷ ns) zero B m lt is =
    let R = references_of n.history in
    ap (λ h. history (references_of h ∪ held ns)) is
    ∙ history_first (R ∪ B) (held ns)
    ∙ last_two R B (held ns)
    ∙ sym (history_first (R ∪ held ns) B)
one_takes (n ∷ ns) (suc i) B m lt is =
    let R = references_of n.history in
    let W = references_of (whole ns) in
    sym (history_second R (held (set ns i m)))
    ∙ ap (λ h. history (R ∪ references_of h)) (one_takes ns i B m (omega arith) is)
    ∙ history_second R (W ∪ B)
    ∙ ap history (sym (both_assoc R W B))
    ∙ sym (history_first (R ∪ W) B)
    ∙ ap (λ h. history (references_of h ∪ B)) (history_second R (held ns))

-- if one shard has the same history as before, all together have
pub one_stays : (ns : List NodeState) (i : ℕ) (m : NodeState) → m.history ≡ (shard_at ns i).history
    → i < length ns → held (set ns i m) ≡ held ns
one_stays [] i m is lt = absurd (omega arith)
one_stays (n ∷ ns) zero m is lt = ap (λ h. references_of h ∪ held ns) is
one_stays (n ∷ ns) (suc i) m is lt = ap (λ S. references_of n.history ∪ S) (one_stays ns i m is (omega arith))

-- the history of one shard more
pub whole_more : (ns : List NodeState) (k : ℕ) → k < length ns
    → whole (take (suc k) ns) ≡ join (whole (take k ns)) (shard_at ns k).history
whole_more [] k lt = absurd (omega arith)
whole_more (n ∷ ns) zero lt =
    let R = references_of n.history in
    history_swap R (set_of_list []) ∙ sym (history_first (set_of_list []) R)
whole_more (n ∷ ns) (suc k) lt =
    let R = references_of n.history in
    let W = references_of (whole (take k ns)) in
    let T = references_of (shard_at ns k).history in
    sym (history_second R (held (take (suc k) ns)))
    ∙ ap (λ h. history (R ∪ references_of h)) (whole_more ns k (omega arith))
    ∙ history_second R (W ∪ T)
    ∙ ap history (sym (both_assoc R W T))
    ∙ sym (history_first (R ∪ W) T)
    ∙ ap (λ h. history (references_of h ∪ T)) (history_second R (held (take k ns)))

-- the history of no shard
pub none_joined : history_of_entries [] ≡ whole []
unfolding history
none_joined = refl
