-- Victims of shards that threads share are farthest back over what the shard was given.
use Rattle.std.proofs.Common.{◌≡◌, ◌≢◌, inl, inr, ℕ, ◌<◌, List, [], ◌∷◌, ◌++◌, length, map, get_or, Option, Some, None, refl, sym, ap, subst, ◌∙◌}
use Rattle.std.proofs.lemmas.Option.{same_Some}
use Rattle.warm_stamps.specs.declared.PageId.{PageId}
use Rattle.warm_history.specs.ReferenceSets.{ReferenceSet, ◌∪◌}
use Rattle.warm_history.specs.Histories.{HistoryView, StandsFor, references_of}
use Rattle.warm_rank.specs.Laws.{IsFarthest}
use Rattle.warm_rank.specs.Ranking.{IsVictim}
use Rattle.warm_rank.proofs.VictimLemmas.{victim_is_farthest}
use Rattle.warm_frame_table.specs.Frames.{FrameState}
use Rattle.warm_frame_table.proofs.ListLemmas.{at_set}
use Rattle.warm_pool.specs.declared.fault.PoolFault.TheVariants.{SizeDiffers}
use Rattle.warm_pool.specs.declared.slot.Slot.{Slot}
use Rattle.warm_pool.specs.View.{FrameView, PoolView, frame_at, frame_view, unfixed_pages, view_of}
use Rattle.warm_pool.specs.Zeroing.{PinnedZeroed, PutsZeros}
use Rattle.warm_machine.specs.Runs.{Runs, operation}
use Rattle.warm_gossip.specs.declared.call.Call.{Call}
use Rattle.warm_gossip.specs.declared.call.Call.TheVariants as node_call
use Rattle.warm_gossip.specs.declared.call.Reply.{Reply}
use Rattle.warm_gossip.specs.declared.call.Reply.TheVariants as node_reply
use Rattle.warm_gossip.specs.declared.fault.NodeFault.TheVariants.{Memory, Pool}
use Rattle.warm_gossip.specs.Clauses.{Goes}
use Rattle.warm_gossip.specs.State.{NodeState, NodeView, node_view}
use Rattle.warm_gossip.specs.Victims.{IsEvicted}
use Rattle.warm_gossip.proofs.VictimLemmas.{KeepsPages, fixes_change, no_frame, victims_are_farthest}
use Rattle.warm_shard_machine.specs.declared.calls.ShardCall.{ShardCall}
use Rattle.warm_shard_machine.specs.declared.calls.ShardCall.TheVariants.{Change, Look, Pin, PinFilled, PinZeroed, Victim, WarmStep}
use Rattle.warm_shard_machine.specs.declared.calls.ShardReply.{ShardReply}
use Rattle.warm_shard_machine.specs.declared.calls.ShardReply.TheVariants.{Changed, Foreign, Looked, Page, Pinned, Refused}
use Rattle.warm_concurrent.specs.Attached.{ShardPass, known_of}
use Rattle.warm_concurrent.specs.Clauses.{AnsweredByShard}
use Rattle.warm_concurrent.specs.Given.{AnswersAfter, FillsFrame, SharedVictims, VictimsOver, gave}
use Rattle.warm_shard_machine.specs.Laws.{Log}
use Rattle.warm_shard_machine.specs.ShardSteps.{CallGoes, CallStep, ShardState, ShardStep, node_reply_of}
use Rattle.warm_concurrent.proofs.ClosedShardLemmas.{run_gave}
use Rattle.warm_visits.proofs.RunLemmas.{last_of}

abbrev pages_of : NodeState → PoolView
pages_of n = view_of n.pool

-- ---- frames that keep their pages

same_pages : (v w : PoolView) → w.frames ≡ v.frames → KeepsPages v w
same_pages v w same i = ap (λ fs. let f : FrameView = get_or fs i no_frame in f.page) same

unpinned_keeps : (n m : NodeState) (slot : Slot) → CallStep n (node_call.Unpin slot) node_reply.Done m
    → KeepsPages (pages_of n) (pages_of m)
unpinned_keeps n m slot step =
    let goes = step.0 in
    fixes_change (pages_of n) (pages_of m) slot.index _ goes.0.there (ap (λ (v : NodeView). v.pool.frames) goes.1)

written_keeps : (n m : NodeState) (slot : Slot) (at : ℕ) (bytes : List ℕ)
    → CallStep n (node_call.Write slot at bytes) node_reply.Done m
    → KeepsPages (pages_of n) (pages_of m)
written_keeps n m slot at bytes step i =
    let goes = step.0 in
    same_pages (pages_of n) (pages_of m) (ap (λ (v : PoolView). v.frames) goes.1.1.becomes) i

-- nothing leaves if each frame keeps its page
none_kept : (v w : PoolView) (p : PageId) → KeepsPages v w → IsEvicted v w p → ⊥
none_kept v w p keeps (was, gone) = gone was.frame (keeps was.frame ∙ was.holds)

-- a page that has left by then had left before
left_before : (v w x : PoolView) (p : PageId) → KeepsPages w x → IsEvicted v x p → IsEvicted v w p
left_before v w x p keeps (was, gone) = (was, λ i is. gone i (keeps i ∙ is))

-- ---- one step

module _ (G : ReferenceSet) (o m : NodeState) (stands : StandsFor o.history G) (v : PageId) where
  -- of a call of the node
  call_leaves : (c : Call) (r : Reply) → CallStep o c r m → c ≢ node_call.Restart
      → IsEvicted (pages_of o) (pages_of m) v → IsFarthest G (unfixed_pages (pages_of o)) v
  call_leaves c r step other gone =
      (victims_are_farthest G (node_view o) (node_view m) c r stands step.0).leaves v other gone

  goes_leaves : (c : Call) (k : Option Reply) → CallGoes o c k m → c ≢ node_call.Restart
      → IsEvicted (pages_of o) (pages_of m) v → IsFarthest G (unfixed_pages (pages_of o)) v
  goes_leaves c None step other gone = absurd step
  goes_leaves c (Some r) step other gone = call_leaves c r step other gone

-- ---- a pin of a page that gets zeros

-- the frame that got it is one of the frames
zeros_there : (h : HistoryView) (v w : PoolView) (p : PageId) (slot : Slot) → PutsZeros h v p slot w
    → slot.index < length v.frames
zeros_there h v w p slot puts = elim puts.to_load [ inl free ↦ free.there | inr victim ↦ victim.there ]

-- the page that was in that frame was the victim
zeros_victim : (h : HistoryView) (v w : PoolView) (p : PageId) (slot : Slot) → PutsZeros h v p slot w
    → (q : PageId) → (frame_at v slot.index).page ≡ Some q
    → IsVictim (references_of h) (unfixed_pages v) (Some q)
zeros_victim h v w p slot puts q held = elim puts.to_load [
  | inl free ↦ let no : None ≡ Some q = sym free.free ∙ held in absurd (cc)
  | inr victim ↦ subst (λ o. IsVictim (references_of h) (unfixed_pages v) o) (sym victim.holds ∙ held) victim.victim
]

zeros_leave : (h : HistoryView) (v w : PoolView) (p : PageId) (slot : Slot) → PutsZeros h v p slot w
    → (q : PageId) → IsEvicted v w q
    → IsVictim (references_of h) (unfixed_pages v) (Some q)
zeros_leave h v w p slot puts q (was, gone) =
    let P : ℕ → FrameView → Type 0 = λ i f. (frame_at v i).page ≡ Some q → f.page ≢ Some q → IsVictim (references_of h) (unfixed_pages v) (Some q) in
    let each : (i : ℕ) → P i (frame_at w i) = λ i.
    subst (λ x. P i (frame_at x i)) (sym puts.becomes)
    (at_set no_frame P v.frames slot.index _ (zeros_there h v w p slot puts) (λ held other. zeros_victim h v w p slot puts q held) (λ j other held none. absurd (none held)) i)
    in
    each was.frame was.holds (gone was.frame)

zeroed_leaves : (G : ReferenceSet) (h : HistoryView) (v w : PoolView) (p : PageId) (slot : Slot)
    → StandsFor h G → PinnedZeroed h v p slot w → (q : PageId) → IsEvicted v w q
    → IsFarthest G (unfixed_pages v) q
zeroed_leaves G h v w p slot stands pinned q gone = elim pinned.1 [
  | inl fixes ↦
      let adds = fixes.adds in
      let one = fixes_change v fixes.between slot.index _ adds.there (ap (λ (x : PoolView). x.frames) adds.becomes) in
      let other = same_pages fixes.between w (ap (λ (x : PoolView). x.frames) fixes.written.becomes) in
      absurd (none_kept v w q (λ i. other i ∙ one i) gone)
  | inr puts ↦ victim_is_farthest h G stands (unfixed_pages v) q (zeros_leave h v w p slot puts q gone)
]

pin_other : (p : PageId) → node_call.Pin p ≢ node_call.Restart
pin_other p e = absurd (cc)

warm_other : node_call.WarmStep ≢ node_call.Restart
warm_other e = absurd (cc)

-- a pin that goes as the call does, whatever it leaves of devices
filled_leaves : (G : ReferenceSet) (o m : NodeState) (p : PageId) (r : Reply) → StandsFor o.history G
    → Goes o (node_call.Pin p) r m → (v : PageId) → IsEvicted (pages_of o) (pages_of m) v
    → IsFarthest G (unfixed_pages (pages_of o)) v
filled_leaves G o m p r stands goes v gone =
    (victims_are_farthest G (node_view o) (node_view m) (node_call.Pin p) r stands goes).leaves v (pin_other p) gone

-- nothing leaves if nothing changes
none_left : (v : PoolView) (p : PageId) → IsEvicted v v p → ⊥
none_left v p (was, gone) = gone was.frame was.holds

module _ (G : ReferenceSet) (o m : ShardState) (stands : StandsFor o.node.history G) (v : PageId) where
  abbrev Farthest : Type 0
  Farthest = IsFarthest G (unfixed_pages (pages_of o.node)) v

  abbrev Leaves : Type 0
  Leaves = IsEvicted (pages_of o.node) (pages_of m.node) v

  same_leaves : m ≡ o → Leaves → Farthest
  same_leaves same gone =
      absurd (none_left (pages_of o.node) v (subst (λ (s : ShardState). IsEvicted (pages_of o.node) (pages_of s.node) v) same gone))

  node_leaves : m.node ≡ o.node → Leaves → Farthest
  node_leaves same gone =
      absurd (none_left (pages_of o.node) v (subst (λ (n : NodeState). IsEvicted (pages_of o.node) (pages_of n) v) same gone))

  step_leaves : (c : ShardCall) (r : ShardReply) → FillsFrame c → ShardStep o c r m → Leaves → Farthest
  step_leaves (Pin p) Foreign loads step gone = same_leaves step.1 gone
  step_leaves (Pin p) r loads step gone = goes_leaves G o.node m.node stands v (node_call.Pin p) (node_reply_of r) step.2 (pin_other p) gone
  step_leaves (PinZeroed p) Foreign loads step gone = same_leaves step.1 gone
  step_leaves (PinZeroed p) (Pinned slot) loads step gone = zeroed_leaves G o.node.history (pages_of o.node) (pages_of m.node) p slot stands step.2.1 v gone
  step_leaves (PinZeroed p) (Refused why) loads step gone =
      let same = ap (λ (fs : List FrameState). map frame_view fs) step.2.1 in
      absurd (none_kept (pages_of o.node) (pages_of m.node) v (same_pages (pages_of o.node) (pages_of m.node) same) gone)
  step_leaves (PinZeroed p) r loads step gone = absurd step.2
  step_leaves (PinFilled p bytes) Foreign loads step gone = same_leaves step.1 gone
  step_leaves (PinFilled p bytes) (Pinned slot) loads step gone = filled_leaves G o.node m.node p (node_reply.Pinned slot) stands step.2.1 v gone
  step_leaves (PinFilled p bytes) (Refused (Pool SizeDiffers)) loads step gone = node_leaves step.2.1 gone
  step_leaves (PinFilled p bytes) (Refused (Pool fault)) loads step gone = filled_leaves G o.node m.node p (node_reply.Refused (Pool fault)) stands step.2.1 v gone
  step_leaves (PinFilled p bytes) (Refused Memory) loads step gone = node_leaves step.2 gone
  step_leaves (PinFilled p bytes) r loads step gone = absurd step.2
  step_leaves WarmStep Foreign loads step gone = same_leaves step.1 gone
  step_leaves WarmStep r loads step gone = goes_leaves G o.node m.node stands v node_call.WarmStep (node_reply_of r) step.2 warm_other gone
  step_leaves (Look p) Foreign loads step gone = same_leaves step.1 gone
  step_leaves (Look p) (Looked slot bytes) loads step gone =
      let looks = step.2 in
      call_leaves G o.node looks.mid stands v (node_call.Pin p) (node_reply.Pinned slot) looks.pins (pin_other p)
      (left_before (pages_of o.node) (pages_of looks.mid) (pages_of m.node) v (unpinned_keeps looks.mid m.node slot looks.unpins) gone)
  step_leaves (Look p) (Refused why) loads step gone = call_leaves G o.node m.node stands v (node_call.Pin p) (node_reply.Refused why) step.2 (pin_other p) gone
  step_leaves (Look p) r loads step gone = absurd step.2
  step_leaves (Change p) Foreign loads step gone = same_leaves step.1 gone
  step_leaves (Change p) (Changed slot before after) loads step gone =
      let changes = step.2 in
      call_leaves G o.node changes.mid stands v (node_call.Pin p) (node_reply.Pinned slot) changes.pins (pin_other p)
      (left_before (pages_of o.node) (pages_of changes.mid) (pages_of changes.left) v (written_keeps changes.mid changes.left slot 0 after.numbers changes.writes)
      (left_before (pages_of o.node) (pages_of changes.left) (pages_of m.node) v (unpinned_keeps changes.left m.node slot changes.unpins) gone))
  step_leaves (Change p) (Refused why) loads step gone = call_leaves G o.node m.node stands v (node_call.Pin p) (node_reply.Refused why) step.2 (pin_other p) gone
  step_leaves (Change p) r loads step gone = absurd step.2
  step_leaves c r loads step gone = absurd loads

  -- the page that is named
  named_one : ShardStep o Victim (Page (Some v)) m → Farthest
  named_one step =
      (victims_are_farthest G (node_view o.node) (node_view m.node) node_call.Victim (node_reply.Page (Some v)) stands step.2.0).named v refl refl

victims_over : (G : ReferenceSet) (o m : ShardState) (c : ShardCall) (r : ShardReply)
    → StandsFor o.node.history G → ShardStep o c r m → VictimsOver G o c r m
victims_over G o m c r stands step = record {
  named = λ v is_call is_reply. named_one G o m stands v (subst (λ (x : ShardReply). ShardStep o Victim x m) is_reply (subst (λ (x : ShardCall). ShardStep o x r m) is_call step));
  leaves = λ v loads gone. step_leaves G o m stands v c r loads step gone;
}

-- ---- an answered call

answered_after : (opening : ShardState) (old new : List ShardPass) (i : ℕ) (c : ShardCall)
    (r : ShardReply) → (known_of old i).opening ≡ Some opening → AnsweredByShard old i c r new
    → (before : Log) × (was : ShardState) × (is : ShardState)
    × AnswersAfter opening (known_of old i) (known_of new i) c r before was is
answered_after opening old new i c r opens answered =
    let got = answered.0 in
    let v = known_of old i in
    let legal = got.legal.legal in
    let same : legal.0 ≡ opening = same_Some legal.0 opening (sym legal.2 ∙ got.opening ∙ opens) in
    let before : Log = v.seen ++ got.between in
    let run : Runs ShardStep opening (before ++ operation v.number c r ∷ []) legal.1 =
    subst (λ (o : ShardState). Runs ShardStep o (before ++ operation v.number c r ∷ []) legal.1) same (subst (λ (es : Log). Runs ShardStep legal.0 es legal.1) got.seen legal.3) in
    let last = last_of ShardStep opening legal.1 before (operation v.number c r) run in (
      before,
      last.0,
      legal.1,
      record { seen = got.seen; begins = (got.between, refl); reaches = last.1; steps = last.2 },
    )

-- ---- the law

pub shared_victims : SharedVictims
shared_victims = record {
  each = λ S opening was is before c r stands runs step. victims_over (S ∪ gave before) was is c r (run_gave S opening was before stands runs) step;
  answered = answered_after;
}
