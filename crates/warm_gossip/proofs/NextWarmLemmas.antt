-- What loading does of a page that a device has and no frame.
use Rattle.std.proofs.Common.{◌≡◌, ◌<◌, ◌≤◌, ℕ, List, [], Option, Some, None, length, map, ap, inl, inr, subst, sym, arith}
use Rattle.std.proofs.lemmas.List.{length-map}
use Rattle.warm_stamps.specs.declared.PageId.{PageId}
use Rattle.warm_history.specs.Histories.{HistoryView, IsHistory, references_of}
use Rattle.warm_history.proofs.JoinLemmas.{history_of_own_references}
use Rattle.warm_rank.specs.declared.RankKey.{RankKey}
use Rattle.warm_rank.specs.Keys.{ranked_page}
use Rattle.warm_rank.specs.Ranking.{hottest_pages}
use Rattle.warm_rank.specs.WarmUp.{IsWarmUp}
use Rattle.warm_rank.proofs.RaisedLemmas.{hottest_still}
use Rattle.warm_pool.specs.declared.slot.Slot.{Slot}
use Rattle.warm_pool.specs.declared.fault.PoolFault.{PoolFault}
use Rattle.warm_pool.specs.declared.fault.PoolFault.TheVariants.{NoDevice, NoPage}
use Rattle.warm_pool.specs.View.{PoolView}
use Rattle.warm_pool.specs.Pinning.{Loaded, LoadRefused, PutsIn, PutRefused}
use Rattle.warm_gossip.specs.State.{NodeView}
use Rattle.warm_gossip.specs.Step.{IsFirstLoadable, IsLoadable, nth_page}
use Rattle.warm_gossip.specs.WarmingUp.{IsListed, IsPast}
use Rattle.warm_gossip.proofs.PassedLemmas.{first_there, none_left}

-- it is put into a frame
pub loaded_in : {h : HistoryView} {v w : PoolView} {p : PageId} {slot : Slot} → IsLoadable v p
    → Loaded h v p slot w → PutsIn h v p 0 slot w
loaded_in loadable loaded = elim loaded.1 [ inl stays ↦ absurd (loadable.1 _ stays.resident) | inr puts ↦ puts ]

-- or it is refused as for a page that a device has
pub load_refused_in : (h : HistoryView) {v : PoolView} {p : PageId} (w : PoolView) (why : PoolFault)
    → IsLoadable v p → LoadRefused h v p why w → PutRefused h v p why w
load_refused_in h w NoDevice loadable refused = let there = loadable.0.device in absurd (omega arith)
load_refused_in h w NoPage loadable refused = let there = loadable.0.number in absurd (omega arith)
load_refused_in h w why loadable refused = refused.2

-- a node with the same history
abbrev node : ℕ → PoolView → HistoryView → NodeView
node id v h = record { id = id; history = h; pool = v }

pub same_node : (id : ℕ) (v : PoolView) (h k : HistoryView) → k ≡ h → node id v k ≡ node id v h
same_node id v h k is = ap (node id v) is

-- the first page of a list of as many of the hottest pages as there are frames is the next to load
pub next_warm : (v : PoolView) (h : HistoryView) (ps : List PageId) (o : Option PageId)
    → IsHistory h → IsWarmUp h (length v.frames) ps
    → IsFirstLoadable v ps o
    → IsFirstLoadable v (hottest_pages (references_of h) (length v.frames)) o
next_warm v h ps o whole hottest = subst (λ xs. IsFirstLoadable v xs o) (hottest (references_of h) (sym (history_of_own_references h whole)))

-- the same of a page that is that one
pub next_is : (v : PoolView) (h : HistoryView) (ps : List PageId) (p q : PageId) → IsHistory h
    → IsWarmUp h (length v.frames) ps
    → IsFirstLoadable v ps (Some p) → p ≡ q
    → IsFirstLoadable v (hottest_pages (references_of h) (length v.frames)) (Some q)
next_is v h ps p q whole hottest first is = next_warm v h ps (Some q) whole hottest (subst (λ x. IsFirstLoadable v ps (Some x)) is first)

-- The page that a step loads is the next to load, and can be loaded.
pub page_to_load : (v : PoolView) (h k : HistoryView) (keys : List RankKey) (at n : ℕ) (p : PageId)
    → IsHistory h → k ≡ h → IsListed k v [] keys n → IsPast (map ranked_page keys) at v
    → (at < length keys → IsLoadable v (nth_page (map ranked_page keys) at)) → at < length keys
    → p ≡ nth_page (map ranked_page keys) at
    → IsFirstLoadable v (hottest_pages (references_of h) (length v.frames)) (Some p)
    × IsLoadable v p
page_to_load v h k keys at n p whole same under past loads there is =
    let ps = map ranked_page keys in
    let hottest = subst (λ x. IsWarmUp x (length v.frames) ps) same (hottest_still k (length v.frames) keys under.hottest) in
    let within : at < length ps = omega (arith, there, length-map keys ranked_page) in
    let loadable = loads there in
    (next_is v h ps _ p whole hottest (first_there v ps at past within loadable) (sym is), subst (IsLoadable v) (sym is) loadable)

-- If no page of the list can be loaded, there is none to load next.
pub none_to_load : (v : PoolView) (h k : HistoryView) (keys : List RankKey) (at n : ℕ)
    → IsHistory h → k ≡ h → IsListed k v [] keys n → IsPast (map ranked_page keys) at v
    → length keys ≤ at
    → IsFirstLoadable v (hottest_pages (references_of h) (length v.frames)) None
none_to_load v h k keys at n whole same under past all =
    let ps = map ranked_page keys in
    let hottest = subst (λ x. IsWarmUp x (length v.frames) ps) same (hottest_still k (length v.frames) keys under.hottest) in
    next_warm v h ps None whole hottest (none_left v ps at past (omega (arith, all, length-map keys ranked_page)))
