-- A round of gossip in a world, and its result.
use Rattle.std.specs.Prelude.{◌≡◌, ◌≢◌, ◌⊎◌, ℕ, ◌+◌, ◌-◌, List, [], ◌∷◌, length, map}
use Rattle.std.specs.List.{AllByRecursion, range_with_len}
use Rattle.warm_history.specs.Histories.{HistoryView, entries_of, history, join}
use Rattle.warm_history.specs.ReferenceSets.{with_horizon}
use Rattle.warm_digest.specs.Exchange.{IsCollision}
use Rattle.warm_world.specs.declared.event.Event.{Event}
use Rattle.warm_world.specs.declared.event.Event.TheVariants.{Offer, Deliver}
use Rattle.warm_world.specs.declared.event.Answer.{Answer}
use Rattle.warm_world.specs.declared.event.Answer.TheVariants.{Refused}
use Rattle.warm_world.specs.States.{ModelState, reach_of}
use Rattle.warm_world.specs.Effects.{Run}
use Rattle.warm_world.specs.Widths.{ModelFits}

-- the event was not refused
abbrev pub IsNotRefused : Answer → Type 0
IsNotRefused (Refused fault) = ⊥
IsNotRefused answer = Unit {0}

-- the events lead from the old state to the new one, one after another, and none of them is refused
pub record NoneRefused (old : ModelState) (events : List Event) (new : ModelState) : Type 0 where
  pub answers : List Answer
  pub run : Run old events answers new
  pub taken : AllByRecursion IsNotRefused answers

-- the replica j receives messages one after the other: `many` of them, those after the first `from`
abbrev pub deliveries : ℕ → ℕ → ℕ → List Event
deliveries j from many = map (λ k. Deliver j (k + 1)) (range_with_len from many)

-- the replica j receives those stored in the second state and not in the first
abbrev pub new_messages_to : ℕ → ModelState → ModelState → List Event
new_messages_to j before after =
    deliveries j (length before.records) (length after.records - length before.records)

-- A round: i offers its digests, and j receives them; i receives all answers to them; j receives
-- all answers to those.
pub record GossipRound (i j : ℕ) (old new : ModelState) : Type 0 where
  pub offered : ModelState
  pub asked : ModelState
  pub given : ModelState
  pub offers : NoneRefused old (Offer i ∷ []) offered
  pub asks : NoneRefused offered (new_messages_to j old offered) asked
  pub gives : NoneRefused asked (new_messages_to i offered asked) given
  pub ends : NoneRefused given (new_messages_to j asked given) new

-- the history of what reached the replica of a number
abbrev pub known_to : ModelState → ℕ → HistoryView
known_to m i = history (reach_of m i)

-- the join of the histories of both replicas
abbrev pub joined_history : ℕ → ℕ → ModelState → HistoryView
joined_history i j m = join (known_to m i) (known_to m j)

-- Both replicas have the entries of the join of their histories before. The second has its horizon
-- too, the greater one, and so has the first if the second answered a message.
pub record AreJoined {i j : ℕ} {old new : ModelState} (round : GossipRound i j old new)
    : Type 0 where
  pub first : entries_of (known_to new i) ≡ entries_of (joined_history i j old)
  pub second : known_to new j ≡ joined_history i j old
  pub raised : round.asked.records ≢ round.offered.records → known_to new i ≡ joined_history i j old

-- After a round both histories have the entries of the join of the two before (AreJoined), or two
-- different texts of one bucket have the same SHA-256 digest: one text of the first replica, and
-- one of the second at the greater horizon.
abbrev pub GossipRoundJoins : Type 0
GossipRoundJoins = (i j : ℕ) (old new : ModelState) → ModelFits old
    → (round : GossipRound i j old new)
    → AreJoined round
    ⊎ IsCollision (known_to old i)
    (history (with_horizon (reach_of old i).horizon (reach_of old j)))
