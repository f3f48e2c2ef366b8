-- Two threads that unpin what the other pinned: from what each call ensured to the law.
use Rattle.std.proofs.Common.{◌≡◌, inl, inr, ℕ, zero, suc, ◌<◌, ◌≤◌, ◌⊎◌, List, map, length, Result, Ok, sym, subst, arith}
use Rattle.warm_turn.specs.declared.fault.Busy.{Busy}
use Rattle.warm_gossip.specs.State.{NodeState}
use Rattle.warm_pool.specs.declared.slot.Slot.{Slot}
use Rattle.warm_stamps.specs.declared.PageId.{PageId}
use Rattle.warm_shard_machine.specs.declared.calls.ShardCall.{ShardCall}
use Rattle.warm_shard_machine.specs.declared.calls.ShardCall.TheVariants.{Pin, Unpin}
use Rattle.warm_shard_machine.specs.declared.calls.ShardReply.{ShardReply}
use Rattle.warm_shard_machine.specs.declared.calls.ShardReply.TheVariants.{Pinned}
use Rattle.warm_concurrent.specs.Attached.{AreOf, ShardPass, ShardTurn}
use Rattle.warm_concurrent.specs.Clauses.{AnsweredByShard, SlotCallEnds, shard_done}
use Rattle.warm_concurrent.specs.Opening.{AreClosed, AreFirst, AreHalved, AreSplit, PassesAreJoined, openings, shards_over}
use Rattle.warm_concurrent.specs.Pins.{NoneIsPinned, TwoThreadsUnpin}

below : (a b : ℕ) → (a < b) ⊎ (b ≤ a)
below zero zero = inr (omega arith)
below zero (suc b) = inl (omega arith)
below (suc a) zero = inr (omega arith)
below (suc a) (suc b) = elim (below a b) [ inl lt ↦ inl (omega (arith, lt)) | inr le ↦ inr (omega (arith, le)) ]

-- a call with a slot that was answered is one of a shard that is there
answered : {T : Type 0} (old new : List ShardPass) (i : ℕ) (call : ShardCall)
    (reply : T → ShardReply) (given : T) → SlotCallEnds old i call reply (Ok given) new
    → (i < length old) × AnsweredByShard old i call (reply given) new
answered old new i call reply given ends = elim (below i (length old)) [
  | inl lt ↦ (lt, ends.0 lt)
  | inr le ↦ let no = (ends.1 le).0 in absurd (cc)
]

pub none_pinned : {T U : Type 0} (t : T) (u : U) → TwoThreadsUnpin → (opened : List NodeState)
    (turns : List ShardTurn) (first here there mine yours done other all : List ShardPass)
    (i j m n : ℕ) (p q : PageId) (a b : Slot) (results : List (Result NodeState Busy))
    → NoneIsPinned opened → openings turns ≡ shards_over opened → AreFirst turns first
    → AreHalved first here → AreSplit first there → AreOf turns mine → AreOf turns yours → i ≡ m
    → j ≡ n → AnsweredByShard here m (Pin p) (Pinned a) mine
    → AnsweredByShard there n (Pin q) (Pinned b) yours
    → SlotCallEnds mine j (Unpin b) shard_done (Ok t) done
    → SlotCallEnds yours i (Unpin a) shard_done (Ok u) other → PassesAreJoined done other all
    → AreOf turns all → AreClosed turns all results
    → (nodes : List NodeState) × (results ≡ map (λ x. Ok x) nodes) × NoneIsPinned nodes
none_pinned t u law opened turns first here there mine yours done other all i j m n p q a b results none opens start halved split mine_of yours_of i_is j_is pinned also unpinned back joined are closes =
    let gone = answered mine done j (Unpin b) shard_done t unpinned in
    let too = answered yours other i (Unpin a) shard_done u back in
    law opened turns first here there mine yours done other all i j p q a b results
    opens none start halved split
    (omega (arith, too.0, yours_of.count)) (omega (arith, gone.0, mine_of.count))
    (subst (λ (k : ℕ). AnsweredByShard here k (Pin p) (Pinned a) mine) (sym i_is) pinned)
    (subst (λ (k : ℕ). AnsweredByShard there k (Pin q) (Pinned b) yours) (sym j_is) also)
    gone.1 too.1 joined are closes
