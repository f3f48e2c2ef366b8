-- What steps of a node do to the pins of its pool.
use Rattle.std.proofs.Common.{◌≡◌, inl, inr, ℕ, zero, suc, ◌+◌, ◌-◌, ◌<◌, Bool, true, false, List, [], ◌∷◌, length, map, set, get_or, Option, Some, None, refl, sym, ap, subst, ◌∙◌, arith}
use Rattle.std.specs.Prelude.{IsTrue, if◌then◌else◌}
use Rattle.std.proofs.lemmas.List.Sums.{sum_by-cons, sum_by-set}
use Rattle.warm_stamps.specs.declared.PageId.{PageId}
use Rattle.warm_history.specs.Histories.{HistoryView}
use Rattle.warm_devices.specs.Device.{DeviceState}
use Rattle.warm_frame_table.specs.Frames.{FrameState}
use Rattle.warm_frame_table.specs.FrameSteps.{vacated}
use Rattle.warm_frame_table.specs.Selection.{is_from, is_on}
use Rattle.warm_frame_table.proofs.ListLemmas.{at_set}
use Rattle.warm_pool.specs.declared.fault.PoolFault.{PoolFault}
use Rattle.warm_pool.specs.declared.fault.PoolFault.TheVariants.{NoDevice, NoPage, AllFixed, ReadFault, WriteBack, FixesFull, OutOfPage, Fixed, Fault}
use Rattle.warm_pool.specs.declared.slot.Slot.{Slot}
use Rattle.warm_pool.specs.Forgetting.{Forgets}
use Rattle.warm_pool.specs.Pinning.{AddsFix, LoadRefused, Pinned as PinnedIn, PinRefused, PutRefused, PutsIn, unpinned}
use Rattle.warm_pool.specs.Retiring.{Retired, emptied}
use Rattle.warm_pool.specs.State.{IsPool, PoolState}
use Rattle.warm_pool.specs.View.{FrameView, Holds, PoolView, frame_at, frame_view, view_of}
use Rattle.warm_pool.specs.Zeroing.{PinnedZeroed}
use Rattle.warm_pool.proofs.PageByteLemmas.{frame_seen}
use Rattle.warm_gossip.specs.declared.call.Call.{Call}
use Rattle.warm_gossip.specs.declared.call.Call.TheVariants.{Absorb, Send, Offer, Receive, Horizon, Pin, Unpin, Read, Write, Victim, WarmList, WarmStep, Restart}
use Rattle.warm_gossip.specs.declared.call.Reply.{Reply}
use Rattle.warm_gossip.specs.declared.call.Reply.TheVariants.{Done, Sent, Answers, Kept, Pinned, Bytes, Page, Pages, Loaded, Refused}
use Rattle.warm_gossip.specs.declared.fault.NodeFault.{NodeFault}
use Rattle.warm_gossip.specs.declared.fault.NodeFault.TheVariants.{Memory, Pool, StaleSlot}
use Rattle.warm_gossip.specs.State.{NodeView}
use Rattle.warm_gossip.specs.Step.{Refuses, Step}
use Rattle.warm_gossip.proofs.VictimLemmas.{no_frame}
use Rattle.warm_shard_machine.specs.Pins.{pins_in}

-- no frame without a page is pinned
abbrev AreFree : List FrameView → Type 0
AreFree fs = (i : ℕ) → (get_or fs i no_frame).page ≡ None → (get_or fs i no_frame).fixes ≡ 0

abbrev pub IsFree : PoolView → Type 0
IsFree v = AreFree v.frames

-- so it is in every pool
pub pool_free : (s : PoolState) → IsPool s → IsFree (view_of s)
pool_free s pool i page =
    let seen = frame_seen s i in
    ap (λ (f : FrameView). f.fixes) seen ∙ (pool.bare i (sym (ap (λ (f : FrameView). f.page) seen) ∙ page)).1

-- this many pins were given, and this many removed, and still no frame without a page is pinned
pub record Moves (given removed : ℕ) (v w : PoolView) : Type 0 where
  pub count : pins_in w.frames + removed ≡ pins_in v.frames + given
  pub free : IsFree w

-- ---- one frame, and all

-- one frame is another
set_moves : (given removed : ℕ) (v w : PoolView) (i : ℕ) (f : FrameView) → i < length v.frames
    → w.frames ≡ set v.frames i f → f.fixes + removed ≡ (get_or v.frames i no_frame).fixes + given
    → (f.page ≡ None → f.fixes ≡ 0) → IsFree v → Moves given removed v w
set_moves given removed v w i f lt becomes change bare free = record {
  count =
      let sets = sum_by-set (λ g. g.fixes) v.frames i f no_frame lt in
      let is : pins_in w.frames ≡ pins_in (set v.frames i f) = ap pins_in becomes in
      omega (arith, sets, is, change);
  free = subst AreFree (sym becomes) (at_set no_frame (λ k g. g.page ≡ None → g.fixes ≡ 0) v.frames i f lt bare (λ k other. free k));
}

-- a caller sees the same frames
pub same_moves : (v w : PoolView) → w.frames ≡ v.frames → IsFree v → Moves 0 0 v w
same_moves v w same free = record {
  count = ap (λ fs. pins_in fs + 0) same;
  free = subst AreFree (sym same) free;
}

-- and then
pub then_same : (given removed : ℕ) (u v w : PoolView) → Moves given removed u v
    → w.frames ≡ v.frames → Moves given removed u w
then_same given removed u v w moves same = record {
  count = ap (λ fs. pins_in fs + removed) same ∙ moves.count;
  free = subst AreFree (sym same) moves.free;
}

-- ---- pins and unpins

adds_moves : (v w : PoolView) (p : PageId) (slot : Slot) → AddsFix v p slot w → IsFree v
    → Moves 1 0 v w
adds_moves v w p slot adds free =
    let f : FrameView = record (frame_at v slot.index) { fixes = (frame_at v slot.index).fixes + 1 } in
    set_moves 1 0 v w slot.index f adds.there (ap (λ (x : PoolView). x.frames) adds.becomes) (omega arith) (λ none. let no : Some p ≡ None = sym adds.resident ∙ none in absurd (cc)) free

-- a page was put into a frame that had none, or whose page was not pinned
pub puts_moves : (h : HistoryView) (v w : PoolView) (p : PageId) (n : ℕ) (slot : Slot)
    → PutsIn h v p n slot w → IsFree v → Moves n 0 v w
puts_moves h v w p n slot puts free =
    let f : FrameView = record { page = Some p; generation = slot.generation; fixes = n } in
    let there : slot.index < length v.frames = elim puts.to_load [ inl least ↦ least.there | inr victim ↦ victim.there ] in
    let was : (frame_at v slot.index).fixes ≡ 0 = elim puts.to_load [ inl least ↦ free slot.index least.free | inr victim ↦ victim.unfixed ] in
    set_moves n 0 v w slot.index f there (ap (λ (x : PoolView). x.frames) puts.becomes) (omega (arith, was)) (λ none. let no : Some p ≡ None = none in absurd (cc)) free

pub pinned_moves : (h : HistoryView) (v w : PoolView) (p : PageId) (slot : Slot)
    → PinnedIn h v p slot w → IsFree v → Moves 1 0 v w
pinned_moves h v w p slot pinned free = elim pinned.1 [
  | inl adds ↦ adds_moves v w p slot adds free
  | inr puts ↦ puts_moves h v w p 1 slot puts free
]

pub pin_moves : (old new : NodeView) (p : PageId) (slot : Slot) → Step old (Pin p) (Pinned slot) new
    → IsFree old.pool → Moves 1 0 old.pool new.pool
pin_moves old new p slot step free = pinned_moves old.history old.pool new.pool p slot step.1 free

pub zeroed_moves : (h : HistoryView) (v w : PoolView) (p : PageId) (slot : Slot)
    → PinnedZeroed h v p slot w → IsFree v → Moves 1 0 v w
zeroed_moves h v w p slot pinned free = elim pinned.1 [
  | inl fixes ↦ then_same 1 0 v fixes.between w (adds_moves v fixes.between p slot fixes.adds free) (ap (λ (x : PoolView). x.frames) fixes.written.becomes)
  | inr puts ↦
      let f : FrameView = record { page = Some p; generation = slot.generation; fixes = 1 } in
      let there : slot.index < length v.frames = elim puts.to_load [ inl least ↦ least.there | inr victim ↦ victim.there ] in
      let was : (frame_at v slot.index).fixes ≡ 0 = elim puts.to_load [ inl least ↦ free slot.index least.free | inr victim ↦ victim.unfixed ] in
      set_moves 1 0 v w slot.index f there (ap (λ (x : PoolView). x.frames) puts.becomes) (omega (arith, was)) (λ none. let no : Some p ≡ None = none in absurd (cc)) free
]

unpinned_moves : (v : PoolView) (slot : Slot) → Holds v slot → IsFree v
    → Moves 0 1 v (unpinned v slot)
unpinned_moves v slot holds free =
    let f : FrameView = record (frame_at v slot.index) { fixes = (frame_at v slot.index).fixes - 1 } in
    set_moves 0 1 v (unpinned v slot) slot.index f holds.there refl (omega (arith, holds.fixed)) (λ none. omega (arith, free slot.index none)) free

pub unpin_moves : (old new : NodeView) (slot : Slot) → Step old (Unpin slot) Done new
    → IsFree old.pool → Moves 0 1 old.pool new.pool
unpin_moves old new slot step free =
    then_same 0 1 old.pool (unpinned old.pool slot) new.pool (unpinned_moves old.pool slot step.0 free) (ap (λ (n : NodeView). n.pool.frames) step.1)

-- ---- calls that leave the frames as a caller sees them

abbrev SameFrames : NodeView → NodeView → Type 0
SameFrames old new = new.pool.frames ≡ old.pool.frames

same_node : (old new : NodeView) → new ≡ old → SameFrames old new
same_node old new same = ap (λ (n : NodeView). n.pool.frames) same

same_view : (v w : PoolView) → w ≡ v → w.frames ≡ v.frames
same_view v w same = ap (λ (x : PoolView). x.frames) same

put_refused : (h : HistoryView) (v w : PoolView) (p : PageId) (why : PoolFault)
    → PutRefused h v p why w → w.frames ≡ v.frames
put_refused h v w p AllFixed refused = same_view v w refused.1
put_refused h v w p FixesFull refused = same_view v w refused.1
put_refused h v w p ReadFault refused = ap (λ (x : PoolView). x.frames) refused.1.becomes
put_refused h v w p WriteBack refused = ap (λ (x : PoolView). x.frames) refused.4.becomes
put_refused h v w p why refused = absurd refused

load_refused : (h : HistoryView) (v w : PoolView) (p : PageId) (why : PoolFault)
    → LoadRefused h v p why w → w.frames ≡ v.frames
load_refused h v w p NoDevice refused = same_view v w refused.1
load_refused h v w p NoPage refused = same_view v w refused.2
load_refused h v w p why refused = put_refused h v w p why refused.2

pin_refused : (h : HistoryView) (v w : PoolView) (p : PageId) (why : PoolFault)
    → PinRefused h v p why w → w.frames ≡ v.frames
pin_refused h v w p FixesFull refused = elim refused [ inl full ↦ same_view v w full.2 | inr load ↦ load_refused h v w p FixesFull load ]
pin_refused h v w p why refused = load_refused h v w p why refused

-- any refused call
pub refused_same : (old new : NodeView) (call : Call) (why : NodeFault) → Refuses old call why new
    → SameFrames old new
refused_same old new (Absorb batch) Memory same = same_node old new same
refused_same old new (Send bucket after) Memory same = same_node old new same
refused_same old new Offer Memory same = same_node old new same
refused_same old new (Receive message) Memory same = same_node old new same
refused_same old new (Pin p) (Pool why) refused = pin_refused old.history old.pool new.pool p why refused.1
refused_same old new (Unpin slot) StaleSlot stale = same_node old new stale.1
refused_same old new (Read slot at len) StaleSlot stale = same_node old new stale.1
refused_same old new (Read slot at len) (Pool OutOfPage) beyond = same_node old new beyond.2
refused_same old new (Read slot at len) Memory full = same_node old new full.2
refused_same old new (Write slot at bytes) StaleSlot stale = same_node old new stale.1
refused_same old new (Write slot at bytes) (Pool OutOfPage) beyond = same_node old new beyond.2
refused_same old new (WarmList n) Memory same = same_node old new same
refused_same old new WarmStep Memory same = same_node old new same
refused_same old new WarmStep (Pool why) (p, next, put) = put_refused old.history old.pool new.pool p why put.1
refused_same old new Restart (Pool Fixed) (fixed, same) = same_node old new same
refused_same old new Restart (Pool Fault) (unfixed, fails) = ap (λ (x : PoolView). x.frames) fails.1.1.becomes
refused_same old new call why impossible = absurd impossible

-- any call but a pin, an unpin, a warm-up step and a restart
abbrev pub IsCalm : Call → Type 0
IsCalm (Pin p) = ⊥
IsCalm (Unpin slot) = ⊥
IsCalm WarmStep = ⊥
IsCalm Restart = ⊥
IsCalm call = Unit {0}

pub calm_same : (old new : NodeView) (call : Call) (reply : Reply) → IsCalm call
    → Step old call reply new → SameFrames old new
calm_same old new (Pin p) reply calm step = absurd calm
calm_same old new (Unpin slot) reply calm step = absurd calm
calm_same old new WarmStep reply calm step = absurd calm
calm_same old new Restart reply calm step = absurd calm
calm_same old new (Absorb batch) Done calm step = ap (λ (n : NodeView). n.pool.frames) step
calm_same old new (Send bucket after) (Sent message) calm step = same_node old new step.1
calm_same old new Offer (Sent message) calm step = same_node old new step.1
calm_same old new (Receive message) (Answers messages) calm step = ap (λ (n : NodeView). n.pool.frames) step.1
calm_same old new (Horizon time) (Kept horizon) calm step = ap (λ (n : NodeView). n.pool.frames) step.0
calm_same old new (Read slot at len) (Bytes bytes) calm step = same_node old new step.3
calm_same old new (Write slot at bytes) Done calm step = ap (λ (x : PoolView). x.frames) step.1.1.becomes
calm_same old new Victim (Page victim) calm step = same_node old new step.1
calm_same old new (WarmList n) (Pages pages) calm step = same_node old new step.1
calm_same old new call (Refused why) calm step = refused_same old new call why step
calm_same old new call reply calm step = absurd step

pub warm_moves : (old new : NodeView) (page : Option PageId) → Step old WarmStep (Loaded page) new
    → IsFree old.pool → Moves 0 0 old.pool new.pool
warm_moves old new None step free = same_moves old.pool new.pool (same_node old new step.1) free
warm_moves old new (Some p) step free =
    puts_moves old.history old.pool new.pool p 0 step.1.1.0 step.1.1.1 free

-- ---- pages that leave

gone_pins : (gone : FrameView → Bool) (fs : List FrameView)
    → pins_in (map (λ f. if gone f then emptied f else f) fs) ≡ pins_in fs
gone_pins gone [] = refl
gone_pins gone (f ∷ fs) =
    let more = sum_by-cons (λ g. g.fixes) f fs in
    let new = sum_by-cons (λ g. g.fixes) (if gone f then emptied f else f) (map (λ g. if gone g then emptied g else g) fs) in
    omega (arith, more, new, one (gone f), gone_pins gone fs)
  where
    one : (b : Bool) → (if b then emptied f else f).fixes ≡ f.fixes
    one true = refl
    one false = refl

gone_free : (gone : FrameView → Bool) (fs : List FrameView)
    → ((i : ℕ) → IsTrue (gone (get_or fs i no_frame)) → (get_or fs i no_frame).fixes ≡ 0)
    → AreFree fs → AreFree (map (λ f. if gone f then emptied f else f) fs)
gone_free gone [] none free i is = refl
gone_free gone (f ∷ fs) none free zero is = one (gone f) (none 0) is
  where
    one : (b : Bool) → (IsTrue b → f.fixes ≡ 0) → (if b then emptied f else f).page ≡ None
        → (if b then emptied f else f).fixes ≡ 0
    one true unfixed is = unfixed refl
    one false unfixed is = free 0 is
gone_free gone (f ∷ fs) none free (suc i) is = gone_free gone fs (λ j. none (suc j)) (λ j. free (suc j)) i is

gone_moves : (gone : FrameView → Bool) (v w : PoolView)
    → ((i : ℕ) → IsTrue (gone (get_or v.frames i no_frame)) → (get_or v.frames i no_frame).fixes ≡ 0)
    → w.frames ≡ map (λ f. if gone f then emptied f else f) v.frames → IsFree v → Moves 0 0 v w
gone_moves gone v w none becomes free = record {
  count = ap (λ fs. pins_in fs + 0) becomes ∙ ap (λ n. n + 0) (gone_pins gone v.frames);
  free = subst AreFree (sym becomes) (gone_free gone v.frames none free);
}

pub retired_moves : (v w : PoolView) (dev : ℕ) (device : DeviceState) → Retired v dev device w
    → IsFree v → Moves 0 0 v w
retired_moves v w dev device retired free =
    gone_moves (λ f. is_on dev f.page) v w retired.may.unfixed (ap (λ (x : PoolView). x.frames) retired.becomes) free

-- frames are vacated as a caller sees them emptied
vacated_seen : (gone : Option PageId → Bool) (fs : List FrameState)
    → map frame_view (map (λ f. if gone f.page then vacated f else f) fs)
    ≡ map (λ f. if gone f.page then emptied f else f) (map frame_view fs)
vacated_seen gone [] = refl
vacated_seen gone (f ∷ fs) =
    (λ i. one (gone f.page) i ∷ vacated_seen gone fs i)
  where
    one : (b : Bool)
        → frame_view (if b then vacated f else f) ≡ (if b then emptied (frame_view f) else frame_view f)
    one true = refl
    one false = refl

pub forgotten_moves : (s t : PoolState) (dev from : ℕ) → Forgets s dev from t → IsFree (view_of s)
    → Moves 0 0 (view_of s) (view_of t)
forgotten_moves s t dev from forgets free =
    gone_moves (λ f. is_from dev from f.page) (view_of s) (view_of t) forgets.unfixed
    (ap (λ (x : PoolState). (view_of x).frames) forgets.becomes ∙ vacated_seen (is_from dev from) s.frames) free
