-- Laws of visits that nobody interrupts: such a visit is the call of the one node that has all
-- references of the shards. For visits among others see the laws of warm_visits.
use Rattle.std.specs.Prelude.{◌≡◌, ℕ, false, true, List, [], length, slice_set, Some}
use Rattle.std.specs.Prelude.{None}
use Rattle.warm_stamps.specs.declared.Reference.{Reference}
use Rattle.warm_history.specs.Entry.{Entry}
use Rattle.warm_history.specs.ReferenceSets.{ReferenceSet, set_of_list}
use Rattle.warm_history.specs.Histories.{HistoryView, references_of}
use Rattle.warm_frames.specs.declared.message.Message.{Message}
use Rattle.warm_frames.specs.declared.message.Message.TheVariants.{Digest, Entries, Want}
use Rattle.warm_machine.specs.declared.operation.Operation.{Operation}
use Rattle.warm_machine.specs.Runs.{Runs}
use Rattle.warm_peer.specs.Answers.{refs_in}
use Rattle.warm_gossip.specs.declared.call.Call.TheVariants.{Absorb, Horizon, Offer, Receive}
use Rattle.warm_gossip.specs.declared.call.Reply.TheVariants.{Answers, Done, Kept, Sent}
use Rattle.warm_gossip.specs.State.{NodeState}
use Rattle.warm_shards.specs.Clauses.{JoinsAll, KeepPools, TakesInFirst, Together}
use Rattle.warm_shards.specs.Shards.{AreShards, shard_at, whole}
use Rattle.warm_visits.specs.Visits.{Enters, Errand, Said, VisitState, absorb_visit}
use Rattle.warm_visits.specs.Visits.{answers_of, copy_of, copy_visit, join_visit}
use Rattle.warm_visits.specs.Visits.{kept_of, next_shard, offer_in, offer_visit, raise_visit}
use Rattle.warm_visits.specs.Visits.{receive_visit}

-- a visit, and shards that it alone enters
pub record Alone : Type 0 where
  pub visit : VisitState
  pub shards : List NodeState

-- this visit, and these shards
abbrev pub alone : VisitState → List NodeState → Alone
alone v shards = record { visit = v; shards = shards }

-- the visit enters one of them, and the others stay as they are
abbrev pub EntersAlone : Alone → Errand → Said → Alone → Type 0
EntersAlone s e said t =
    Enters s.visit (shard_at s.shards e.shard) e said t.visit (shard_at t.shards e.shard)
    × (t.shards ≡ slice_set s.shards e.shard (shard_at t.shards e.shard))

-- the visit enters one shard after the other; so it becomes the second one, and the shards these
abbrev pub GoesAlone : VisitState → List NodeState → VisitState → List NodeState → Type 0
GoesAlone v old w new = (entries : List (Operation Errand Said))
    × Runs EntersAlone (alone v old) entries (alone w new)

-- How a visit ends that nobody interrupts: all shards together have gone so; or one had no memory,
-- and the first shards have taken these in.
pub record EndsAlone (well : VisitState → List NodeState → Type 0) (S : ReferenceSet)
    (old : List NodeState) (w : VisitState) (new : List NodeState) : Type 0 where
  pub done : w.stopped ≡ false → well w new
  pub stopped : w.stopped ≡ true → TakesInFirst old S new
  pub pools : KeepPools old new
  pub shards : AreShards new
  pub id : (shard_at new 0).id ≡ (shard_at old 0).id

-- whenever shards have been visited so, until no errand was left, or one was refused
abbrev pub Whenever : (ℕ → ℕ → VisitState)
    → (List NodeState → VisitState → List NodeState → Type 0) → Type 0
Whenever visit so = (old new : List NodeState) (w : VisitState) → AreShards old
    → GoesAlone (visit (shard_at old 0).id (length old)) old w new → next_shard w ≡ None
    → so old w new

-- the visit of a message is its call, if nobody interrupts
abbrev pub ReceivesAlone : Message → Type 0
ReceivesAlone message = Whenever (λ id n. receive_visit id n message) (λ old. EndsAlone
    (λ w new. Together old (Receive message) (Answers (answers_of w.made w.after)) new)
    (refs_in message) old)

-- A visit that gives, and that nobody interrupts, is the call of the one node.
pub record GivingIsOneNode : Type 0 where
  pub absorbs : (batch : List Reference)
      → Whenever (λ id n. absorb_visit id n batch) (λ old. EndsAlone
      (λ w new. Together old (Absorb batch) Done new) (set_of_list batch) old)
  pub raises : (time : ℕ) → Whenever (λ id n. raise_visit id n time) (λ old w new.
      (horizon : ℕ) × (w.stopped ≡ false) × (kept_of w.made ≡ Some horizon) × AreShards new
      × Together old (Horizon time) (Kept horizon) new × KeepPools old new)
  pub entries : (sender horizon : ℕ) (entries : List Entry)
      → ReceivesAlone (Entries sender horizon entries)
  pub joins : (h : HistoryView) → Whenever (λ id n. join_visit id n h) (λ old. EndsAlone
      (λ w new. JoinsAll old h new) (references_of h) old)

-- And so is one that reads.
pub record ReadingIsOneNode : Type 0 where
  pub offers : Whenever offer_visit (λ old. EndsAlone (λ w new. (offer : Message)
      × (offer_in w.id w.made ≡ Some offer) × Together old Offer (Sent offer) new) (set_of_list [])
      old)
  pub requests : (sender horizon request : ℕ) → ReceivesAlone (Want sender horizon request)
  pub digests : (sender horizon : ℕ) (digests : List (List ℕ))
      → ReceivesAlone (Digest sender horizon digests)
  pub copies : Whenever copy_visit (λ old. EndsAlone
      (λ w new. copy_of w.made ≡ Some (whole old)) (set_of_list []) old)
