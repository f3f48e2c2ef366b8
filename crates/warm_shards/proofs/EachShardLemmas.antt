-- Calls that go to each shard, from the first on.
use Rattle.std.proofs.Common.{◌≡◌, inl, inr, ℕ, zero, suc, ◌<◌, ◌≤◌, false, List, [], ◌∷◌, ◌++◌, length, map, set, get_or, drop, Option, Some, None, Result, Ok, Err, refl, sym, ap, subst, ◌∙◌, arith}
use Rattle.std.specs.Prelude.{IfErr, IsTrue, OnOk}
use Rattle.std.proofs.Math.Dec.{leb-zero}
use Rattle.std.proofs.Math.Nat.{zero-max}
use Rattle.std.proofs.Math.ListN.{get_or-map as mapped}
use Rattle.std.proofs.lemmas.Bool.{cases_eq, cases_lt, eq-eqb}
use Rattle.std.proofs.lemmas.List.{append-nil, drop_all, get_or-set_same, length-set, take_all}
use Rattle.warm_stamps.specs.declared.PageId.{PageId}
use Rattle.warm_history.specs.ReferenceSets.{set_of_list, with_horizon, ◌∪◌}
use Rattle.warm_history.specs.Histories.{HistoryView, history, history_of_entries, history_of_entries_at, references_of}
use Rattle.warm_frame_table.specs.Frames.{FrameState, fresh_frame, nth_frame}
use Rattle.warm_frame_table.specs.FrameSteps.{cleaned}
use Rattle.warm_frame_table.specs.Selection.{is_from}
use Rattle.warm_frame_table.proofs.CountLemmas.{count_most}
use Rattle.warm_pool.specs.declared.fault.PoolFault.TheVariants.{Fault, Fixed, NoDevice}
use Rattle.warm_pool.specs.Forgetting.{AreUnfixedFrom, ForgetRefused, MayForget}
use Rattle.warm_pool.specs.Retiring.{Emptied}
use Rattle.warm_pool.specs.State.{IsPool, PoolState, nth_device}
use Rattle.warm_pool.specs.View.{FrameView, IsUnfixed, PoolView, frame_at, frame_view, view_of}
use Rattle.warm_pool.specs.WritingBack.{WriteBackFails, cleaned_to}
use Rattle.warm_pool.specs.WritingSome.{CleansFirst}
use Rattle.warm_gossip.specs.declared.call.Call.TheVariants.{Restart}
use Rattle.warm_gossip.specs.declared.call.Reply.TheVariants.{Done, Refused}
use Rattle.warm_gossip.specs.declared.fault.NodeFault.{NodeFault}
use Rattle.warm_gossip.specs.declared.fault.NodeFault.TheVariants.{Pool}
use Rattle.warm_gossip.specs.Clauses.{DevicesAfter, Goes, OfPool}
use Rattle.warm_gossip.specs.State.{NodeState, NodeView, node_view}
use Rattle.warm_gossip.specs.Step.{IsFailed, OnPool, Step}
use Rattle.warm_gossip.proofs.BringsLemmas.{vacant}
use Rattle.warm_shards.specs.Shards.{AreShards, IsShard, held, no_shard, shard_at, whole}
use Rattle.warm_shards.specs.EachShard.{DeviceFails, HasForgotten, IsClean, IsUnchanged, IsWritten, OfEach, OfFirst, RestartRefused, RestartStops, Rises, ShardFlushFails, ShardForgetsPages, ShardRestarts, ShardSettles, ShardWriteFails}
use Rattle.warm_shards.specs.EachShard.{ShardsAreUnfixed, StopsAtShard, WriteBackStops}
use Rattle.warm_shards.proofs.Buckets.{shard_horizon}
use Rattle.warm_shards.proofs.Calls.{alone_known, known_shard, read_at, same_shard}
use Rattle.warm_shards.proofs.EngineCalls.{forgotten_own, frames_shard}
use Rattle.warm_shards.proofs.AreShardsLemmas.{each_still, empty_shard, some_shards}
use Rattle.warm_frame_table.proofs.ListLemmas.{at_set}
use Rattle.warm_shards.proofs.WholeLemmas.{none_joined}

abbrev pub Change : Type 1
Change = NodeState → NodeState → Type 0

-- ---- one shard after the other

-- the shard that is read is as it was
pub was_left : (change : Change) (old ns : List NodeState) (k : ℕ) (n d : NodeState) → k < length ns
    → n ≡ get_or ns k d → OfFirst change k old ns → n ≡ shard_at old k
was_left change old ns k n d lt at have = read_at ns k n d lt at ∙ have.others k (omega arith)

pub gone_all : (change : Change) (old ns : List NodeState) (k : ℕ) → length old ≤ k
    → OfFirst change k old ns → OfEach change old ns
gone_all change old ns k over have = record { count = have.count; each = λ i lt. have.first i (omega arith) }

pub gone_stops : (change fails : Change) (old ns : List NodeState) (k : ℕ) (n m d : NodeState)
    → k < length ns → n ≡ get_or ns k d → fails n m → OfFirst change k old ns
    → StopsAtShard change fails IsUnchanged old (set ns k m)
gone_stops change fails old ns k n m d lt at new have =
    let here : n ≡ shard_at old k = was_left change old ns k n d lt at have in
    record {
      count = length-set ns k m ∙ have.count;
      shard = k;
      there = omega (arith, have.count);
      before = at_set no_shard (λ i x. i < k → change (shard_at old i) x) ns k m lt (λ less. absurd (omega arith)) (λ i other less. have.first i less);
      at = subst (λ x. fails (shard_at old k) x) (sym (get_or-set_same ns k m no_shard lt)) (subst (λ x. fails x m) here new);
      after = at_set no_shard (λ i x. k < i → i < length old → x ≡ shard_at old i) ns k m lt (λ less. absurd (omega arith)) (λ i other less low. have.others i (omega arith));
    }

-- ---- one call after another

pub then_each : (f g h : Change)
    → ((a b c : NodeState) → f a b → g b c → h a c) → (old mid new : List NodeState)
    → OfEach f old mid → OfEach g mid new → OfEach h old new
then_each f g h both old mid new x y = record {
  count = y.count ∙ x.count;
  each = λ i lt. both (shard_at old i) (shard_at mid i) (shard_at new i) (x.each i lt) (y.each i (omega (arith, x.count)));
}

pub then_stops : (f g fails h h' : Change)
    → ((a b c : NodeState) → f a b → g b c → h a c) → ((a b c : NodeState) → f a b → fails b c → h' a c)
    → (old mid new : List NodeState) → OfEach f old mid → StopsAtShard g fails IsUnchanged mid new
    → StopsAtShard h h' f old new
then_stops f g fails h h' both stops old mid new x y = record {
  count = y.count ∙ x.count;
  shard = y.shard;
  there = omega (arith, y.there, x.count);
  before = λ i lt. both (shard_at old i) (shard_at mid i) (shard_at new i) (x.each i (omega (arith, y.there, x.count))) (y.before i lt);
  at = stops (shard_at old y.shard) (shard_at mid y.shard) (shard_at new y.shard) (x.each y.shard (omega (arith, y.there, x.count))) y.at;
  after = λ i less low. subst (λ n. f (shard_at old i) n) (sym (y.after i less (omega (arith, x.count)))) (x.each i low);
}

-- ---- they are still shards

-- a shard that has changed so is the shard that it was, at this horizon
abbrev pub StaysShard : ℕ → ℕ → Change → Type 0
StaysShard latest later change = (count number i : ℕ) (n m : NodeState)
    → IsShard count number latest i n → change n m → IsShard count number later i m

pub each_shards : (later : ℕ) (change : Change) (old new : List NodeState)
    → StaysShard (shard_at old 0).history.horizon later change → AreShards old
    → OfEach change old new → AreShards new
each_shards later change old new stays are have =
    each_still later old new have.count are (λ i lt was. stays (length old) (shard_at old 0).id i (shard_at old i) (shard_at new i) was (have.each i lt))

pub stops_shards : (done fails left : Change) (old new : List NodeState)
    → StaysShard (shard_at old 0).history.horizon (shard_at old 0).history.horizon done
    → StaysShard (shard_at old 0).history.horizon (shard_at old 0).history.horizon fails
    → StaysShard (shard_at old 0).history.horizon (shard_at old 0).history.horizon left
    → AreShards old → StopsAtShard done fails left old new → AreShards new
stops_shards done fails left old new one two three are have =
    each_still (shard_at old 0).history.horizon old new have.count are (λ i lt was. elim (cases_eq i have.shard) [
      | inl same ↦ two (length old) (shard_at old 0).id i (shard_at old i) (shard_at new i) was (subst (λ x. fails (shard_at old x) (shard_at new x)) (sym same) have.at)
      | inr other ↦ elim (cases_lt i have.shard) [
        | inl less ↦ one (length old) (shard_at old 0).id i (shard_at old i) (shard_at new i) was (have.before i less)
        | inr over ↦ three (length old) (shard_at old 0).id i (shard_at old i) (shard_at new i) was (have.after i (omega (arith, over, other)) lt)
      ]
    ])

pub unchanged_stays : (latest : ℕ) → StaysShard latest latest IsUnchanged
unchanged_stays latest count number i n m was same = subst (IsShard count number latest i) (sym same) was

pub forgets_stays : (latest dev from : ℕ) → StaysShard latest latest (ShardForgetsPages dev from)
forgets_stays latest dev from count number i n m was by =
    known_shard count number latest i n m was by.0 (forgotten_own count i n.pool m.pool dev from by.1 was.own.resident)

pub written_stays : (latest : ℕ) → StaysShard latest latest IsWritten
written_stays latest count number i n m was by = same_shard count number latest i n m was by.0

pub settles_stays : (latest : ℕ) → StaysShard latest latest ShardSettles
settles_stays latest count number i n m was by = same_shard count number latest i n m was by.0

pub write_fails_stays : (latest : ℕ) → StaysShard latest latest ShardWriteFails
write_fails_stays latest count number i n m was by =
    frames_shard count number latest i n m by.0 (ap (λ (v : PoolView). v.frames) by.1.fails.becomes) was

pub flush_fails_stays : (latest : ℕ) → StaysShard latest latest ShardFlushFails
flush_fails_stays latest count number i n m was by =
    frames_shard count number latest i n m (alone_known n m _ by.0.0) (ap (λ (v : PoolView). v.frames) by.0.1.1.becomes) was

-- ---- writing back

all_cleaned : (frames : List FrameState) (i : ℕ) → (nth_frame (map cleaned frames) i).dirty ≡ false
all_cleaned frames i = ap (λ (f : FrameState). f.dirty) (mapped cleaned frames i (fresh_frame []))

clean_all : (frames : List FrameState) (n : ℕ) → length frames ≤ n
    → cleaned_to n frames ≡ map cleaned frames
clean_all frames n over =
    ap (λ (fs : List FrameState). map cleaned fs ++ drop n frames) (take_all n frames over)
    ∙ ap (λ (fs : List FrameState). map cleaned frames ++ fs) (drop_all n frames over)
    ∙ append-nil (map cleaned frames)

-- if as many pages may be written as there are frames, all are
pub all_written : (limit : ℕ) (s t : PoolState) → limit ≡ length s.frames → CleansFirst limit s t
    → IsClean t
all_written limit s t is cleans i =
    let few = count_most cleans.upto s.frames in
    let over : length s.frames ≤ cleans.upto = elim (cases_lt cleans.upto (length s.frames)) [
      | inl less ↦ let spent = cleans.whole less in absurd (omega (arith, less, spent, few, is))
      | inr more ↦ more
    ] in
    ap (λ (fs : List FrameState). (nth_frame fs i).dirty) (cleans.down.becomes ∙ clean_all s.frames cleans.upto over) ∙ all_cleaned s.frames i

pub written_then : (a b c : NodeState) → IsWritten a b → ShardSettles b c → ShardSettles a c
written_then a b c x y = (y.0 ∙ x.0, y.1)

-- clean frames stay clean if writing back stops
stays_clean : (frames : List FrameState) (n i : ℕ)
    → ((k : ℕ) → (nth_frame frames k).dirty ≡ false)
    → (nth_frame (cleaned_to n frames) i).dirty ≡ false
stays_clean frames zero i clean = clean i
stays_clean [] (suc n) i clean = refl
stays_clean (f ∷ fs) (suc n) zero clean = refl
stays_clean (f ∷ fs) (suc n) (suc i) clean = stays_clean fs n i (λ k. clean (suc k))

fails_clean : (s t : PoolState) → IsClean s → WriteBackFails s t → IsClean t
fails_clean s t clean fails i =
    ap (λ (fs : List FrameState). (nth_frame fs i).dirty) fails.frames ∙ stays_clean s.frames fails.written i clean

pub written_fails : (a b c : NodeState) → IsWritten a b → DeviceFails b c → ShardFlushFails a c
written_fails a b c x y = (
  subst (λ (v : NodeView). OnPool IsFailed v (node_view c)) x.0 y.0,
  fails_clean b.pool c.pool x.1 y.1,
)

-- ---- restarting

pub settled_restarts : (a b c : NodeState) → ShardSettles a b → ShardRestarts b c
    → ShardRestarts a c
settled_restarts a b c x y = (subst (λ (v : NodeView). Step v Restart Done (node_view c)) x.0 y.0, y.1)

pub settled_fails : (a b c : NodeState) → ShardSettles a b → DeviceFails b c → ShardFlushFails a c
settled_fails a b c x y = (
  subst (λ (v : NodeView). OnPool IsFailed v (node_view c)) x.0 y.0,
  fails_clean b.pool c.pool x.1.clean y.1,
)

-- a node without a pinned page restarts unless a device fails
pub fails_only : (why : NodeFault) (n m : NodeState) → IsUnfixed (view_of n.pool)
    → Goes n Restart (Refused why) m → DevicesAfter n Restart (Refused why) m
    → (why ≡ Pool Fault) × DeviceFails n m
fails_only (Pool Fixed) n m unfixed refused left =
    let none : (frame_at (view_of n.pool) refused.0.frame).fixes ≡ 0 = unfixed refused.0.frame in
    let some : 0 < (frame_at (view_of n.pool) refused.0.frame).fixes = refused.0.fixed in
    absurd (omega (arith, none, some))
fails_only (Pool Fault) n m unfixed refused left = (refl, (refused.1, left))
fails_only why n m unfixed refused left = absurd refused

-- settling pins nothing
pub settled_unfixed : (old mid : List NodeState) → OfEach ShardSettles old mid
    → ShardsAreUnfixed old
    → ShardsAreUnfixed mid
settled_unfixed old mid settles unfixed i lt =
    let there : i < length old = omega (arith, lt, settles.count) in
    subst (λ (v : NodeView). IsUnfixed v.pool) (sym (settles.each i there).0) (unfixed i there)

no_references : (horizon : ℕ)
    → history (with_horizon horizon (references_of (history_of_entries []))) ≡ history_of_entries_at horizon []
unfolding history
no_references horizon = ap (λ (h : ℕ). history_of_entries_at h []) (zero-max horizon)

-- a shard that restarted, and was then raised
pub rises_after : (horizon : ℕ) (a b c : NodeState) → ShardRestarts a b → Rises horizon b c
    → HasForgotten horizon a c
rises_after horizon a b c x y =
    let forgot : b.history ≡ history_of_entries [] = ap (λ (v : NodeView). v.history) x.0.0 in
    let pool : view_of c.pool ≡ view_of b.pool = ap (λ (v : NodeView). v.pool) y.0 in
    record {
      id = ap (λ (v : NodeView). v.id) y.0 ∙ ap (λ (v : NodeView). v.id) x.0.0;
      history = ap (λ (v : NodeView). v.history) y.0 ∙ ap (λ (h : HistoryView). history (with_horizon horizon (references_of h))) forgot ∙ no_references horizon;
      emptied = subst (Emptied (view_of a.pool)) (sym pool) x.0.1;
      settled = record {
        clean = λ i. y.1.dirty i ∙ x.1.clean i;
        flushed = λ k. ap (λ ds. (nth_device ds k).waiting) y.1.devices ∙ x.1.flushed k;
      };
    }

-- those before the one that fails are raised
pub stops_risen : (horizon : ℕ) (fails : Change) (old mid new : List NodeState) (k : ℕ)
    → (stops : StopsAtShard ShardRestarts fails IsUnchanged old mid) → stops.shard ≡ k
    → OfFirst (Rises horizon) k mid new → StopsAtShard (HasForgotten horizon) fails IsUnchanged old new
stops_risen horizon fails old mid new k stops is risen = record {
  count = risen.count ∙ stops.count;
  shard = stops.shard;
  there = stops.there;
  before = λ i less. rises_after horizon (shard_at old i) (shard_at mid i) (shard_at new i) (stops.before i less) (risen.first i (omega (arith, is)));
  at = subst (λ n. fails (shard_at old stops.shard) n) (sym (risen.others stops.shard (omega (arith, is)))) stops.at;
  after = λ i less low. risen.others i (omega (arith, is)) ∙ stops.after i less low;
}

pub fails_risen : (horizon : ℕ) (fails : Change) (old ns new : List NodeState) (k : ℕ)
    (n m d : NodeState) → k < length ns → n ≡ get_or ns k d → fails n m
    → OfFirst ShardRestarts k old ns → OfFirst (Rises horizon) k (set ns k m) new
    → StopsAtShard (HasForgotten horizon) fails IsUnchanged old new
unfolding gone_stops
fails_risen horizon fails old ns new k n m d lt at by have risen =
    stops_risen horizon fails old (set ns k m) new k (gone_stops ShardRestarts fails old ns k n m d lt at by have) refl risen

pub restarts_stays : (latest : ℕ) → StaysShard latest 0 ShardRestarts
restarts_stays latest count number i n m was by =
    empty_shard count number i 0 m (ap (λ (v : NodeView). v.id) by.0.0 ∙ was.id) (ap (λ (v : NodeView). v.history) by.0.0) (vacant (view_of n.pool) (view_of m.pool) by.0.1)

pub forgotten_stays : (latest horizon : ℕ) → horizon ≡ latest
    → StaysShard latest latest (HasForgotten horizon)
forgotten_stays latest horizon same count number i n m was by =
    subst (λ (h : ℕ). IsShard count number h i m) same (empty_shard count number i horizon m (by.id ∙ was.id) by.history (vacant (view_of n.pool) (view_of m.pool) by.emptied))

pub none_held : (ns : List NodeState)
    → ((i : ℕ) → i < length ns → (shard_at ns i).history ≡ history_of_entries [])
    → held ns ≡ set_of_list []
none_held [] all = refl
none_held (n ∷ ns) all =
    ap (λ h. references_of h ∪ held ns) (all 0 (omega arith))
    ∙ ap (λ S. references_of (history_of_entries []) ∪ S) (none_held ns (λ i lt. all (suc i) (omega arith)))

-- restarted shards hold no reference
pub restarted_whole : (old new : List NodeState) → OfEach ShardRestarts old new
    → whole new ≡ history_of_entries []
restarted_whole old new have =
    ap history (none_held new (λ i lt. ap (λ (v : NodeView). v.history) (have.each i (omega (arith, have.count))).0.0)) ∙ sym none_joined

-- ---- whole calls

pub forgotten_after : (horizon : ℕ) (a b c : NodeState) → ShardSettles a b
    → HasForgotten horizon b c
    → HasForgotten horizon a c
forgotten_after horizon a b c x y = record {
  id = y.id ∙ ap (λ (v : NodeView). v.id) x.0;
  history = y.history;
  emptied = subst (λ (v : NodeView). Emptied v.pool (view_of c.pool)) x.0 y.emptied;
  settled = y.settled;
}

-- the horizon that all shards have, after they were settled
pub settled_horizon : (old mid : List NodeState) → AreShards old → OfEach ShardSettles old mid
    → (shard_at mid 0).history.horizon ≡ (whole old).horizon
settled_horizon old mid are settles =
    let some = some_shards old are in
    ap (λ (v : NodeView). v.history.horizon) (settles.each 0 some).0 ∙ shard_horizon old 0 are some some

pub restart_stops : (old mid new : List NodeState) (horizon : ℕ) (result : Result Unit NodeFault)
    → horizon ≡ (whole old).horizon → OfEach ShardSettles old mid
    → IfErr result (λ why. (why ≡ Pool Fault)
    × StopsAtShard (HasForgotten horizon) DeviceFails IsUnchanged mid new)
    → IfErr result (λ why. (why ≡ Pool Fault) × RestartStops old new)
restart_stops old mid new horizon (Ok given) is settles stops = tt
restart_stops old mid new horizon (Err why) is settles (fault, stops) = (
  fault,
  inr (subst (λ (h : ℕ). StopsAtShard (HasForgotten h) ShardFlushFails ShardSettles old new) is
      (then_stops ShardSettles (HasForgotten horizon) DeviceFails (HasForgotten horizon) ShardFlushFails (forgotten_after horizon) settled_fails old mid new settles stops)),
)

pub restarted_all : (old mid new : List NodeState) (result : Result Unit NodeFault)
    → OfEach ShardSettles old mid → OnOk result (OfEach ShardRestarts mid new)
    → OnOk result (OfEach ShardRestarts old new)
restarted_all old mid new (Err why) settles restarts = tt
restarted_all old mid new (Ok given) settles restarts =
    then_each ShardSettles ShardRestarts ShardRestarts settled_restarts old mid new settles restarts

-- ---- they are still shards

pub forgotten_shards : (dev from : ℕ) (old new : List NodeState) → AreShards old
    → OfEach (ShardForgetsPages dev from) old new → AreShards new
forgotten_shards dev from old new are each =
    let latest = (shard_at old 0).history.horizon in
    each_shards latest (ShardForgetsPages dev from) old new (forgets_stays latest dev from) are each

stopped_shards : (old new : List NodeState) → AreShards old → WriteBackStops old new → AreShards new
stopped_shards old new are stops =
    let latest = (shard_at old 0).history.horizon in
    elim stops [
      | inl writes ↦ stops_shards IsWritten ShardWriteFails IsUnchanged old new (written_stays latest) (write_fails_stays latest) (unchanged_stays latest) are writes
      | inr flushes ↦ stops_shards ShardSettles ShardFlushFails IsWritten old new (settles_stays latest) (flush_fails_stays latest) (written_stays latest) are flushes
    ]

pub settled_shards : (old new : List NodeState) (result : Result Unit NodeFault) → AreShards old
    → OnOk result (OfEach ShardSettles old new)
    → IfErr result (λ why. (why ≡ Pool Fault) × WriteBackStops old new) → AreShards new
settled_shards old new (Ok given) are each stops =
    let latest = (shard_at old 0).history.horizon in
    each_shards latest ShardSettles old new (settles_stays latest) are each
settled_shards old new (Err why) are each stops = stopped_shards old new are stops.1

pub restarted_shards : (old new : List NodeState) (result : Result Unit NodeFault) → AreShards old
    → OnOk result (OfEach ShardRestarts old new)
    → IfErr result (λ why. (why ≡ Pool Fault) × RestartStops old new) → AreShards new
restarted_shards old new (Ok given) are each stops =
    each_shards 0 ShardRestarts old new (restarts_stays (shard_at old 0).history.horizon) are each
restarted_shards old new (Err why) are each stops =
    let latest = (shard_at old 0).history.horizon in
    let some = some_shards old are in
    let same : (whole old).horizon ≡ latest = sym (shard_horizon old 0 are some some) in
    elim stops.1 [
      | inl writes ↦ stopped_shards old new are writes
      | inr restarts ↦ stops_shards (HasForgotten (whole old).horizon) ShardFlushFails ShardSettles old new (forgotten_stays latest (whole old).horizon same) (flush_fails_stays latest) (settles_stays latest) are restarts
    ]

pub restarted_empty : (old new : List NodeState) (result : Result Unit NodeFault)
    → OnOk result (OfEach ShardRestarts old new) → OnOk result (whole new ≡ history_of_entries [])
restarted_empty old new (Err why) each = tt
restarted_empty old new (Ok given) each = restarted_whole old new each

pub fault_refuses : (old new : List NodeState) (result : Result Unit NodeFault)
    → ShardsAreUnfixed old
    → IfErr result (λ why. (why ≡ Pool Fault) × RestartStops old new)
    → IfErr result (λ why. RestartRefused old why new)
fault_refuses old new (Ok given) unfixed stops = tt
fault_refuses old new (Err why) unfixed (fault, stops) =
    subst (λ w. RestartRefused old w new) (sym fault) (unfixed, stops)

-- ---- asking first

-- pages that may be forgotten are not refused
pub may_not_refuse : (dev from : ℕ) (s t : PoolState) (why : NodeFault) → MayForget s dev from
    → OfPool (λ fault. ForgetRefused s dev from fault t) why → ⊥
may_not_refuse dev from s t (Pool NoDevice) may refused = omega (arith, may.0, refused.0)
may_not_refuse dev from s t (Pool Fixed) may refused =
    let pinned = refused.1 in
    let none : (frame_at (view_of s) pinned.frame).fixes ≡ 0 = may.1 pinned.frame pinned.is in
    let some : 0 < (frame_at (view_of s) pinned.frame).fixes = pinned.fixed in
    omega (arith, none, some)
may_not_refuse dev from s t why may refused = refused

-- every page of a device has the number 0 or a higher one
from_start : (p : PageId) → IsTrue (is_from p.dev 0 (Some p))
from_start p = rw (eq-eqb p.dev p.dev refl) (leb-zero p.no)

-- if no page of any device is pinned, none is
pub none_fixed : (s : PoolState) → IsPool s
    → ((k : ℕ) → k < length s.devices → AreUnfixedFrom (view_of s) k 0) → IsUnfixed (view_of s)
none_fixed s pool each i = cases (nth_frame s.frames i).page refl
  where
    seen : frame_at (view_of s) i ≡ frame_view (nth_frame s.frames i)
    seen = mapped frame_view s.frames i _

    cases : (page : Option PageId) → (nth_frame s.frames i).page ≡ page
        → (frame_at (view_of s) i).fixes ≡ 0
    cases None is = ap (λ (f : FrameView). f.fixes) seen ∙ (pool.bare i is).1
    cases (Some p) is =
        let here : (frame_at (view_of s) i).page ≡ Some p = ap (λ (f : FrameView). f.page) seen ∙ is in
        each p.dev (pool.has_device i p is) i (subst (λ o. IsTrue (is_from p.dev 0 o)) (sym here) (from_start p))
