-- What a call does to the history and to the pages in the frames, and which page leaves.
use Rattle.std.proofs.Common.{◌≡◌, ◌≢◌, ◌⊎◌, ◌<◌, ℕ, List, [], Option, Some, None, length, set, get_or, refl, sym, ap, subst, ◌∙◌, inl, inr}
use Rattle.warm_stamps.specs.declared.PageId.{PageId}
use Rattle.warm_history.specs.ReferenceSets.{ReferenceSet, set_of_list, ◌∪◌}
use Rattle.warm_history.specs.Histories.{HistoryView, StandsFor, history, history_of_entries, references_of}
use Rattle.warm_history.proofs.JoinLemmas.{history_first}
use Rattle.warm_rank.specs.Ranking.{IsVictim}
use Rattle.warm_rank.specs.Laws.{IsFarthest}
use Rattle.warm_rank.proofs.EvictionLemmas.{truncation_keeps_order}
use Rattle.warm_rank.proofs.VictimLemmas.{victim_is_farthest}
use Rattle.warm_frame_table.proofs.ListLemmas.{at_set}
use Rattle.warm_pool.specs.declared.slot.Slot.{Slot}
use Rattle.warm_pool.specs.declared.fault.PoolFault.{PoolFault}
use Rattle.warm_pool.specs.declared.fault.PoolFault.TheVariants.{NoDevice, NoPage, AllFixed, ReadFault, WriteBack, FixesFull, OutOfPage, Fixed, Fault}
use Rattle.warm_pool.specs.View.{PoolView, FrameView, frame_at, unfixed_pages}
use Rattle.warm_pool.specs.Unchanged.{FailsAt}
use Rattle.warm_pool.specs.Retiring.{Emptied}
use Rattle.warm_pool.specs.Pinning.{HasNoFreeFrame, PutsIn, PutRefused, LoadRefused, PinRefused}
use Rattle.warm_gossip.specs.declared.call.Call.{Call}
use Rattle.warm_gossip.specs.declared.call.Call.TheVariants.{Absorb, Send, Offer, Receive, Horizon, Pin, Unpin, Read, Write, Victim, WarmList, WarmStep, Restart}
use Rattle.warm_gossip.specs.declared.call.Reply.{Reply}
use Rattle.warm_gossip.specs.declared.call.Reply.TheVariants.{Done, Sent, Answers, Kept, Pinned, Bytes, Page, Pages, Loaded, Refused}
use Rattle.warm_gossip.specs.declared.fault.NodeFault.{NodeFault}
use Rattle.warm_gossip.specs.declared.fault.NodeFault.TheVariants.{Memory, Pool, StaleSlot}
use Rattle.warm_peer.specs.Answers.{refs_in}
use Rattle.warm_gossip.specs.State.{NodeView}
use Rattle.warm_gossip.specs.Step.{Step, Refuses}
use Rattle.warm_gossip.specs.Given.{given_by_call}
use Rattle.warm_gossip.specs.Brings.{Brings}
use Rattle.warm_gossip.specs.Victims.{IsEvicted, VictimsAreFarthest, RepliesAreOverReferences}

-- what is read of a frame beyond the last
abbrev pub no_frame : FrameView
no_frame = record { page = None; generation = 0; fixes = 0 }

-- every frame has the page that it had
abbrev pub KeepsPages : PoolView → PoolView → Type 0
KeepsPages v w = (i : ℕ) → (frame_at w i).page ≡ (frame_at v i).page

-- a page that was in no frame was put into one
abbrev pub PutsPage : HistoryView → PoolView → PoolView → Type 0
PutsPage h v w = (p : PageId) × (fixes : ℕ) × (slot : Slot) × PutsIn h v p fixes slot w

-- ---- every frame keeps its page

same_frames : (v w : PoolView) → w.frames ≡ v.frames → KeepsPages v w
same_frames v w same i = ap (λ fs. let f : FrameView = get_or fs i no_frame in f.page) same

same_pool : (v w : PoolView) → w ≡ v → KeepsPages v w
same_pool v w same i = ap (λ x. (frame_at x i).page) same

-- everything but the pool is unchanged, and every frame has its page
abbrev pub KeepsNode : NodeView → NodeView → Type 0
KeepsNode old new = (new ≡ record old { pool = new.pool }) × KeepsPages old.pool new.pool

pub none_changed : (old new : NodeView) → new ≡ old → KeepsNode old new
none_changed old new same = subst (KeepsNode old) (sym same) (refl, λ i. refl)

-- if the pin count of one frame changes
pub fixes_change : (v w : PoolView) (k n : ℕ) → k < length v.frames
    → w.frames ≡ set v.frames k (record (frame_at v k) { fixes = n }) → KeepsPages v w
fixes_change v w k n there becomes i =
    let changed : FrameView = record (frame_at v k) { fixes = n } in
    same_frames (record v { frames = set v.frames k changed }) w becomes i
    ∙ at_set no_frame (λ j f. f.page ≡ (frame_at v j).page) v.frames k changed there refl (λ j other. refl) i

failed : (v w : PoolView) (k : ℕ) → FailsAt v k w → KeepsPages v w
failed v w k fails = same_frames v w (ap (λ x. x.frames) fails.becomes)

put_refused : (h : HistoryView) (v w : PoolView) (p : PageId) (why : PoolFault)
    → PutRefused h v p why w → KeepsPages v w
put_refused h v w p AllFixed refused = same_pool v w refused.1
put_refused h v w p FixesFull refused = same_pool v w refused.1
put_refused h v w p ReadFault refused = failed v w p.dev refused.1
put_refused h v w p WriteBack (i, q, below, holds, fails) = failed v w q.dev fails
put_refused h v w p why refused = absurd refused

load_refused : (h : HistoryView) (v w : PoolView) (p : PageId) (why : PoolFault)
    → LoadRefused h v p why w → KeepsPages v w
load_refused h v w p NoDevice refused = same_pool v w refused.1
load_refused h v w p NoPage refused = same_pool v w refused.2
load_refused h v w p why refused = put_refused h v w p why refused.2

pin_refused : (h : HistoryView) (v w : PoolView) (p : PageId) (why : PoolFault)
    → PinRefused h v p why w → KeepsPages v w
pin_refused h v w p FixesFull refused = elim refused [ inl full ↦ same_pool v w full.2 | inr load ↦ load_refused h v w p FixesFull load ]
pin_refused h v w p why refused = load_refused h v w p why refused

-- a refused call leaves every page in its frame, and everything but the pool unchanged
pub refused : (old new : NodeView) (call : Call) (why : NodeFault) → Refuses old call why new
    → KeepsNode old new
refused old new (Absorb batch) Memory same = none_changed old new same
refused old new (Send bucket after) Memory same = none_changed old new same
refused old new Offer Memory same = none_changed old new same
refused old new (Receive message) Memory same = none_changed old new same
refused old new (Pin p) (Pool why) (alone, pin) = (alone, pin_refused old.history old.pool new.pool p why pin)
refused old new (Unpin slot) StaleSlot stale = none_changed old new stale.1
refused old new (Read slot at len) StaleSlot stale = none_changed old new stale.1
refused old new (Read slot at len) (Pool OutOfPage) beyond = none_changed old new beyond.2
refused old new (Read slot at len) Memory full = none_changed old new full.2
refused old new (Write slot at bytes) StaleSlot stale = none_changed old new stale.1
refused old new (Write slot at bytes) (Pool OutOfPage) beyond = none_changed old new beyond.2
refused old new (WarmList n) Memory same = none_changed old new same
refused old new WarmStep Memory same = none_changed old new same
refused old new WarmStep (Pool why) (p, next, put) = (put.0, put_refused old.history old.pool new.pool p why put.1)
refused old new Restart (Pool Fixed) (fixed, same) = none_changed old new same
refused old new Restart (Pool Fault) (unfixed, fails) = (fails.0, failed old.pool new.pool fails.1.0 fails.1.1)
refused old new call why impossible = absurd impossible

-- ---- what a call does to the history, and to the pages in the frames

none_given : history_of_entries [] ≡ history (set_of_list [])
unfolding history
none_given = refl

-- The history is unchanged, or has taken references in, or is that of none: as the call gave them.
abbrev pub HistoryGoes : HistoryView → Call → Reply → HistoryView → Type 0
HistoryGoes h call reply k =
    ((k ≡ h) × ((S : ReferenceSet) → given_by_call S call reply ≡ S))
    ⊎ (((T : ReferenceSet) × (k ≡ history (references_of h ∪ T)) × ((S : ReferenceSet) → given_by_call S call reply ≡ S ∪ T))
    ⊎ ((k ≡ history_of_entries []) × ((S : ReferenceSet) → given_by_call S call reply ≡ set_of_list [])))

-- every frame has its page, or a page that the call brings was put into one, or a restart has
-- emptied them
abbrev pub PagesGo : NodeView → Call → NodeView → Type 0
PagesGo old call new =
    KeepsPages old.pool new.pool
    ⊎ (((p : PageId) × Brings old call p × (fixes : ℕ) × (slot : Slot) × PutsIn old.history old.pool p fixes slot new.pool)
    ⊎ ((call ≡ Restart) × Emptied old.pool new.pool))

-- what a call does to the history, and to the pages in the frames
abbrev pub Effect : NodeView → Call → Reply → NodeView → Type 0
Effect old call reply new = HistoryGoes old.history call reply new.history × PagesGo old call new

alone : (call : Call) (reply : Reply) (old new : NodeView)
    → ((S : ReferenceSet) → given_by_call S call reply ≡ S) → KeepsNode old new
    → Effect old call reply new
alone call reply old new gives keeps = (inl (ap (λ n. n.history) keeps.0, gives), inl keeps.1)

same : (call : Call) (reply : Reply) (old new : NodeView)
    → ((S : ReferenceSet) → given_by_call S call reply ≡ S) → new ≡ old → Effect old call reply new
same call reply old new gives is = alone call reply old new gives (none_changed old new is)

taken : (T : ReferenceSet) (call : Call) (reply : Reply) (old new : NodeView)
    → ((S : ReferenceSet) → given_by_call S call reply ≡ S ∪ T)
    → new ≡ record old { history = history (references_of old.history ∪ T) }
    → Effect old call reply new
taken T call reply old new gives step =
    (inr (inl (T, ap (λ n. n.history) step, gives)), inl (same_pool old.pool new.pool (ap (λ n. n.pool) step)))

pub step_goes : (call : Call) (reply : Reply) (old new : NodeView) → Step old call reply new
    → Effect old call reply new
step_goes (Absorb batch) Done old new step = taken (set_of_list batch) (Absorb batch) Done old new (λ S. refl) step
step_goes (Send bucket after) (Sent message) old new step = same (Send bucket after) (Sent message) old new (λ S. refl) step.1
step_goes Offer (Sent message) old new step = same Offer (Sent message) old new (λ S. refl) step.1
step_goes (Receive message) (Answers messages) old new step = taken (refs_in message) (Receive message) (Answers messages) old new (λ S. refl) step.1
step_goes (Horizon time) (Kept horizon) old new step = taken (record { horizon = time; given = [] }) (Horizon time) (Kept horizon) old new (λ S. refl) step.0
step_goes (Pin p) (Pinned slot) old new step = (
  inl (ap (λ n. n.history) step.0, λ S. refl),
  elim step.1.1 [
    | inl adds ↦ inl (fixes_change old.pool new.pool slot.index _ adds.there (ap (λ x. x.frames) adds.becomes))
    | inr puts ↦ inr (inl (p, refl, 1, slot, puts))
  ],
)
step_goes (Unpin slot) Done old new step =
    (inl (ap (λ n. n.history) step.1, λ S. refl), inl (fixes_change old.pool new.pool slot.index _ step.0.there (ap (λ n. n.pool.frames) step.1)))
step_goes (Read slot at len) (Bytes bytes) old new step = same (Read slot at len) (Bytes bytes) old new (λ S. refl) step.3
step_goes (Write slot at bytes) Done old new step =
    alone (Write slot at bytes) Done old new (λ S. refl) (step.1.0, same_frames old.pool new.pool (ap (λ x. x.frames) step.1.1.becomes))
step_goes Victim (Page victim) old new step = same Victim (Page victim) old new (λ S. refl) step.1
step_goes (WarmList n) (Pages pages) old new step = same (WarmList n) (Pages pages) old new (λ S. refl) step.1
step_goes WarmStep (Loaded None) old new step = same WarmStep (Loaded None) old new (λ S. refl) step.1
step_goes WarmStep (Loaded (Some p)) old new step =
    (inl (ap (λ n. n.history) step.1.0, λ S. refl), inr (inl (p, step.0, 0, step.1.1.0, step.1.1.1)))
step_goes Restart Done old new step = (inr (inr (ap (λ n. n.history) step.0, λ S. refl)), inr (inr (refl, step.1)))
step_goes call (Refused why) old new step = alone call (Refused why) old new (λ S. refl) (refused old new call why step)
step_goes call reply old new step = absurd step

-- the history is that of S, and any call but a restart has put one page into a frame, or left all
-- pages in their frames
abbrev pub Leads : ReferenceSet → Call → NodeView → NodeView → Type 0
Leads S call old new = (new.history ≡ history S) × (call ≢ Restart → KeepsPages old.pool new.pool ⊎ PutsPage old.history old.pool new.pool)

-- a call leads to the history of the references given before and of those that it gives
pub step_leads : (S : ReferenceSet) (call : Call) (reply : Reply) (old new : NodeView)
    → old.history ≡ history S → Step old call reply new
    → Leads (given_by_call S call reply) call old new
step_leads S call reply old new is step =
    let goes = step_goes call reply old new step in (
      elim goes.0 [
        | inl stays ↦ stays.0 ∙ is ∙ ap history (sym (stays.1 S))
        | inr moves ↦ elim moves [
          | inl takes ↦ takes.1 ∙ ap (λ h. history (references_of h ∪ takes.0)) is ∙ history_first S takes.0 ∙ ap history (sym (takes.2 S))
          | inr none ↦ none.0 ∙ none_given ∙ ap history (sym (none.1 S))
        ]
      ],
      λ other. elim goes.1 [
        | inl keeps ↦ inl keeps
        | inr moves ↦ elim moves [ inl puts ↦ inr (puts.0, puts.2, puts.3, puts.4) | inr gone ↦ absurd (other gone.0) ]
      ],
    )

-- ---- the page that leaves

-- the frame into which a page was loaded is one of the frames
pub frame_is_there : {h : HistoryView} {v w : PoolView} {p : PageId} {fixes : ℕ} {slot : Slot}
    → PutsIn h v p fixes slot w → slot.index < length v.frames
frame_is_there puts = elim puts.to_load [ inl free ↦ free.there | inr victim ↦ victim.there ]

-- what holds of the frame into which a page was put, and of the others, holds of each
pub frames_after : {h : HistoryView} {v w : PoolView} {p : PageId} {fixes : ℕ} {slot : Slot}
    → PutsIn h v p fixes slot w → (P : ℕ → FrameView → Type 0)
    → P slot.index (record { page = Some p; generation = slot.generation; fixes = fixes })
    → ((j : ℕ) → j ≢ slot.index → P j (frame_at v j)) → (i : ℕ) → P i (frame_at w i)
frames_after {h} {v} {w} {p} {fixes} {slot} puts P here others i =
    subst (λ x. P i (frame_at x i)) (sym puts.becomes) (at_set no_frame P v.frames slot.index _ (frame_is_there puts) here others i)

-- the page of the frame into which another was loaded was the victim among the unpinned pages, and
-- every frame had a page
pub victim_left : {h : HistoryView} {v w : PoolView} {p : PageId} {fixes : ℕ} {slot : Slot}
    → PutsIn h v p fixes slot w → (q : PageId) → (frame_at v slot.index).page ≡ Some q
    → HasNoFreeFrame v × IsVictim (references_of h) (unfixed_pages v) (Some q)
victim_left {h} {v} puts q held = elim puts.to_load [
  | inl free ↦ let no : None ≡ Some q = sym free.free ∙ held in absurd (cc)
  | inr victim ↦ (victim.full, subst (λ o. IsVictim (references_of h) (unfixed_pages v) o) (sym victim.holds ∙ held) victim.victim)
]

-- a page that leaves was in that frame
pub leaves_as_victim : {h : HistoryView} {v w : PoolView} {p : PageId} {fixes : ℕ} {slot : Slot}
    → PutsIn h v p fixes slot w → (q : PageId) → IsEvicted v w q
    → IsVictim (references_of h) (unfixed_pages v) (Some q)
leaves_as_victim {h} {v} puts q (was, gone) =
    frames_after puts (λ i f. (frame_at v i).page ≡ Some q → f.page ≢ Some q → IsVictim (references_of h) (unfixed_pages v) (Some q))
    (λ held other. (victim_left puts q held).1) (λ j other held none. absurd (none held)) was.frame was.holds (gone was.frame)

leaves_farthest : (S : ReferenceSet) (h : HistoryView) (v w : PoolView) → StandsFor h S
    → KeepsPages v w ⊎ PutsPage h v w → (q : PageId) → IsEvicted v w q
    → IsFarthest S (unfixed_pages v) q
leaves_farthest S h v w stands (inl keeps) q (was, gone) = absurd (gone was.frame (keeps was.frame ∙ was.holds))
leaves_farthest S h v w stands (inr puts) q leaves = victim_is_farthest h S stands (unfixed_pages v) q (leaves_as_victim puts.3 q leaves)

named_farthest : (S : ReferenceSet) (old new : NodeView) → StandsFor old.history S → (v : PageId)
    → Step old Victim (Page (Some v)) new → IsFarthest S (unfixed_pages old.pool) v
named_farthest S old new stands v step = victim_is_farthest old.history S stands (unfixed_pages old.pool) v step.0

pub victims_are_farthest : VictimsAreFarthest
victims_are_farthest S old new call reply stands step = record {
  named = λ v is_call is_reply. named_farthest S old new stands v (subst (λ r. Step old Victim r new) is_reply (subst (λ c. Step old c reply new) is_call step));
  leaves = λ v other gone. leaves_farthest S old.history old.pool new.pool stands ((step_leads S call reply old new stands step).1 other) v gone;
}

-- ---- what a node answers, over the references for which its history stands

pub victim_over : (h : HistoryView) (S : ReferenceSet) → StandsFor h S
    → (U : List PageId) (v : Option PageId) → IsVictim (references_of h) U v → IsVictim S U v
victim_over h S stands U None none = none
victim_over h S stands U (Some v) victim = (victim.0, λ q has other. sym ((truncation_keeps_order h S stands).evicted_alike v q) ∙ victim.1 q has other)

pub replies_are_over_references : RepliesAreOverReferences
replies_are_over_references S old new stands = record {
  victim = λ v step. victim_over old.history S stands (unfixed_pages old.pool) v step.0;
  hottest = λ n ps step. step.0 ∙ (truncation_keeps_order old.history S stands).hottest_alike n;
}
