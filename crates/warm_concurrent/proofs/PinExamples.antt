-- Worked examples: two threads share a pool of two frames, and one unpins what the other pinned.
use Rattle.std.proofs.Common.{◌≡◌, ℕ, [], ◌∷◌, Some, refl, arith}
use Rattle.warm_stamps.specs.declared.PageId.{PageId}
use Rattle.warm_pool.specs.declared.slot.Slot.{Slot}
use Rattle.warm_pool.specs.View.{FrameView}
use Rattle.warm_gossip.specs.declared.fault.NodeFault.TheVariants.{StaleSlot}
use Rattle.warm_machine.specs.Runs.{operation}
use Rattle.warm_turn.specs.CallHistories.{calls_by}
use Rattle.warm_shard_machine.specs.declared.calls.ShardCall.TheVariants.{Pin, Unpin}
use Rattle.warm_shard_machine.specs.declared.calls.ShardReply.TheVariants.{Done, Pinned, Refused}
use Rattle.warm_shard_machine.specs.Laws.{Log}
use Rattle.warm_shard_machine.specs.Pins.{LeadsTo, pins_in}

abbrev page : ℕ → PageId
page n = record { dev = 0; no = n }

abbrev slot : ℕ → Slot
slot i = record { index = i; generation = 1 }

abbrev frame : ℕ → ℕ → FrameView
frame n pins = record { page = Some (page n); generation = 1; fixes = pins }

-- thread 0 pins page 7, and thread 1 page 8
abbrev pinned : Log
pinned = operation 0 (Pin (page 7)) (Pinned (slot 0)) ∷ operation 1 (Pin (page 8)) (Pinned (slot 1)) ∷ []

both_pinned : pins_in (frame 7 1 ∷ frame 8 1 ∷ []) ≡ 2
both_pinned = refl

pinned_leads : LeadsTo 0 pinned 2
pinned_leads = refl

-- thread 1 unpins page 7, and is done: its calls lead to 0, and those of thread 0 to 1
abbrev mixed : Log
mixed =
    operation 0 (Pin (page 7)) (Pinned (slot 0))
    ∷ operation 1 (Pin (page 8)) (Pinned (slot 1))
    ∷ operation 1 (Unpin (slot 0)) Done
    ∷ operation 0 (Unpin (slot 0)) (Refused StaleSlot) ∷ []

one_pinned : pins_in (frame 7 0 ∷ frame 8 1 ∷ []) ≡ 1
one_pinned = refl

mixed_leads : LeadsTo 0 mixed 1
mixed_leads = refl

first_counts : LeadsTo 0 (calls_by 0 mixed) 1
first_counts = refl

second_counts : LeadsTo 0 (calls_by 1 mixed) 0
second_counts = refl

-- a count that leaves the first pin out is wrong
uncounted : LeadsTo 0 (calls_by 0 mixed) 0 → ⊥
uncounted wrong = omega (arith, wrong)
