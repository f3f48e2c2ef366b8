-- What a refused call of an engine leaves of what a handle holds.
use Rattle.std.proofs.Common.{ℕ, List, Err, refl, sym, subst}
use Rattle.warm_pool.specs.Forgetting.{ForgetRefused}
use Rattle.warm_pool.specs.Outcomes.{FlushDeviceFails, UnreadPinFails, WritePageFails}
use Rattle.warm_gossip.specs.declared.call.Call.TheVariants.{Pin}
use Rattle.warm_gossip.specs.declared.call.Reply.TheVariants.{Refused}
use Rattle.warm_gossip.specs.declared.fault.NodeFault.{NodeFault}
use Rattle.warm_gossip.specs.declared.fault.NodeFault.TheVariants.{Memory, Pool, StaleSlot}
use Rattle.warm_gossip.specs.Clauses.{Goes, OfPool}
use Rattle.warm_gossip.specs.Engine.{KeepsKnown}
use Rattle.warm_c_calls.specs.declared.open_node.OpenNode.{OpenNode}
use Rattle.warm_c_base.specs.declared.status.Refusal.TheVariants.{Node}
use Rattle.warm_c_base.specs.declared.values.PinnedSlot.{PinnedSlot}
use Rattle.warm_c_base.specs.declared.values.WarmPage.{WarmPage}
use Rattle.warm_c_calls.specs.Calls.{SameDevices}
use Rattle.warm_c_calls.specs.Engine.{FlushesDevice, ForgetsPages, NodeWritesBackPage, PinsZeroed, SameButPool}
use Rattle.warm_c_calls.specs.FilledPins.{PinsFilled}
use Rattle.warm_c_base.specs.Values.{page_of_c}

-- the pool alone has changed
same_but_pool : (old new : OpenNode) → KeepsKnown old.node new.node → SameDevices old new
    → SameButPool old new
same_but_pool old new known same = record { id = known.id; history = known.history; devices = same }

module _ (old new : OpenNode) (known : KeepsKnown old.node new.node) (same : SameDevices old new) where
  pub zeroed_refused : (page : WarmPage) (slot : PinnedSlot) (why : NodeFault)
      → OfPool (λ fault. UnreadPinFails old.node.history (page_of_c page) old.node.pool fault new.node.pool) why
      → PinsZeroed page slot slot old (Err (Node why)) new
  zeroed_refused page slot (Pool why) fails =
      (fails.cause, fails.stays, fails.devices, fails.frames, same_but_pool old new known same, refl)
  zeroed_refused page slot Memory fails = absurd fails
  zeroed_refused page slot StaleSlot fails = absurd fails

  pub page_refused : (page : WarmPage) (written : ℕ) (why : NodeFault)
      → OfPool (λ fault. WritePageFails (page_of_c page) old.node.pool fault new.node.pool) why
      → NodeWritesBackPage page written written old (Err (Node why)) new
  page_refused page written (Pool why) fails =
      subst (λ w. NodeWritesBackPage page written written old (Err (Node (Pool w))) new) (sym fails.cause.0) (fails.cause.1, same_but_pool old new known same, refl)
  page_refused page written Memory fails = absurd fails
  page_refused page written StaleSlot fails = absurd fails

  pub flush_refused : (dev : ℕ) (why : NodeFault)
      → OfPool (λ fault. FlushDeviceFails dev old.node.pool fault new.node.pool) why
      → FlushesDevice dev old (Err (Node why)) new
  flush_refused dev (Pool why) fails =
      (fails.cause, record { elsewhere = fails.elsewhere; others = fails.others; once = fails.once }, same_but_pool old new known same)
  flush_refused dev Memory fails = absurd fails
  flush_refused dev StaleSlot fails = absurd fails

  pub forget_refused : (dev from : ℕ) (why : NodeFault)
      → OfPool (λ fault. ForgetRefused old.node.pool dev from fault new.node.pool) why
      → ForgetsPages dev from old (Err (Node why)) new
  forget_refused dev from (Pool why) refused = (refused, same_but_pool old new known same)
  forget_refused dev from Memory refused = absurd refused
  forget_refused dev from StaleSlot refused = absurd refused

pub filled_refused : (old new : OpenNode) (page : WarmPage) (bytes : List ℕ) (slot : PinnedSlot)
    (why : NodeFault) → SameDevices old new → Goes old.node (Pin (page_of_c page)) (Refused why) new.node
    → OfPool (λ fault. UnreadPinFails old.node.history (page_of_c page) old.node.pool fault new.node.pool) why
    → PinsFilled page bytes slot slot old (Err (Node why)) new
filled_refused old new page bytes slot (Pool why) same step fails =
    (fails.cause.1, (step, same), fails.devices, fails.frames, record { unread = fails.unread; unflushed = fails.unflushed }, refl)
filled_refused old new page bytes slot Memory same step fails = absurd fails
filled_refused old new page bytes slot StaleSlot same step fails = absurd fails
