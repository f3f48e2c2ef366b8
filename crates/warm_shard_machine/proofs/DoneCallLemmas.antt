-- Calls that have no result.
use Rattle.std.proofs.Common.{◌≡◌, ℕ, refl}
use Rattle.warm_gossip.specs.declared.call.Call.TheVariants as node_call
use Rattle.warm_gossip.specs.declared.fault.NodeFault.{NodeFault}
use Rattle.warm_gossip.specs.State.{NodeState}
use Rattle.warm_shard_machine.specs.declared.calls.ShardCall.{ShardCall}
use Rattle.warm_shard_machine.specs.declared.calls.ShardCall.TheVariants.{FlushDevice, ForgetPages, Write, WriteBack, WritePages}
use Rattle.warm_shard_machine.specs.declared.calls.ShardReply.{ShardReply}
use Rattle.warm_shard_machine.specs.declared.calls.ShardReply.TheVariants.{Done, Refused}
use Rattle.warm_shard_machine.specs.ShardSteps.{IsDoneCall, IsOwn, MayAnswer, NodeGoes, asked_of, node_reply_of}
use Rattle.warm_shard_machine.proofs.ShardStepLemmas.{goes_as}

module _ (count i : ℕ) where
  -- such a call brings pages of the shard alone
  done_own : (c : ShardCall) → IsDoneCall count i c → IsOwn count i c
  done_own (Write slot at bytes) done = tt
  done_own WritePages done = tt
  done_own WriteBack done = tt
  done_own (FlushDevice dev) done = tt
  done_own (ForgetPages dev from) done = tt
  done_own c done = absurd done

  -- a node answers such a call `Done`, or refuses it
  done_goes : (x y : NodeState) (c : ShardCall) (r : ShardReply) → IsDoneCall count i c
      → NodeGoes x (asked_of c) r y → (r ≡ Done → ⊥)
      → ((why : NodeFault) → r ≡ Refused why → ⊥) → ⊥
  done_goes x y c Done done goes not_done not_refused = not_done refl
  done_goes x y c (Refused why) done goes not_done not_refused = not_refused why refl
  done_goes x y (Write slot at bytes) r done goes not_done not_refused = goes_as x y (node_call.Write slot at bytes) (node_reply_of r) goes
  done_goes x y WritePages r done goes not_done not_refused = goes
  done_goes x y WriteBack r done goes not_done not_refused = goes
  done_goes x y (FlushDevice dev) r done goes not_done not_refused = goes
  done_goes x y (ForgetPages dev from) r done goes not_done not_refused = goes
  done_goes x y c r done goes not_done not_refused = absurd done

  -- so a shard has no other reply to it
  pub only_done : (c : ShardCall) (r : ShardReply) → IsDoneCall count i c → MayAnswer count i c r
      → (r ≡ Done → ⊥) → ((why : NodeFault) → r ≡ Refused why → ⊥) → ⊥
  only_done c r done may not_done not_refused =
      let gone = may (done_own c done) in
      done_goes gone.0 gone.1 c r done gone.2 not_done not_refused
