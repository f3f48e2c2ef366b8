-- A round of gossip between two replicas.
use Rattle.std.specs.Prelude.{◌≡◌, ◌⊎◌, ℕ, List, [], ◌∷◌, ◌++◌}
use Rattle.warm_history.specs.ReferenceSets.{ReferenceSet, ◌∪◌}
use Rattle.warm_history.specs.Histories.{HistoryView, IsHistory, entries_of, history, join}
use Rattle.warm_frames.specs.declared.message.Message.{Message}
use Rattle.warm_frames.specs.declared.message.Message.TheVariants.{Entries, Digest}
use Rattle.warm_digest.specs.BucketDigests.{digests_of}
use Rattle.warm_digest.specs.Exchange.{Fits, IsCollision}
use Rattle.warm_peer.specs.Answers.{IsAnswer, history_after}
use Rattle.warm_peer.specs.State.{PeerState}

-- the message in which a replica of this id offers the digests of its history
abbrev pub offer : ℕ → HistoryView → Message
offer id h = Digest id h.horizon (digests_of (entries_of h))

-- A replica of this id receives messages one after the other: these are all its answers, and new is
-- its history afterwards.
abbrev pub Receives : ℕ → HistoryView → List Message → List Message → HistoryView → Type 0
Receives id h [] answers new = (answers ≡ []) × (new ≡ h)
Receives id h (message ∷ messages) answers new =
    (first others : List Message) × IsAnswer id h message first
    × Receives id (history_after h message) messages others new × (answers ≡ first ++ others)

-- A round: i offers its digests to j; i receives all answers of j; j receives all answers of i to
-- those. The offer alone raises j's horizon.
pub record HistoryRound (i j : ℕ) (h g h' g' : HistoryView) : Type 0 where
  pub asked : List Message
  pub given : List Message
  pub last : List Message
  pub offered : IsAnswer j g (offer i h) asked
  pub received : Receives i h asked given h'
  pub back : Receives j (history_after g (offer i h)) given last g'

-- After a round both histories have the entries of the join of the two before; that of j has its
-- horizon too, and that of i if j answered a message. Or two different texts of one bucket have the
-- same SHA-256 digest: one of h, and one of g at the greater horizon.
abbrev pub RoundJoins : (i j : ℕ) (h g h' g' : HistoryView) → Type 0
RoundJoins i j h g h' g' = (round : HistoryRound i j h g h' g')
    → ((entries_of h' ≡ entries_of (join h g)) × (g' ≡ join h g)
    × ((round.asked ≡ [] → ⊥) → h' ≡ join h g)) ⊎ IsCollision h (history_after g (offer i h))

-- every round between histories whose numbers are within their widths joins them, or there is a
-- collision
abbrev pub HistoryRoundJoins : Type 0
HistoryRoundJoins = (i j : ℕ) (h g h' g' : HistoryView) → IsHistory h → IsHistory g → Fits h
    → Fits g → RoundJoins i j h g h' g'

-- each round in which the first peer makes the offer to the other joins their histories, or there
-- is a collision
abbrev pub PeersJoin : PeerState → PeerState → Type 0
PeersJoin one other = (h' g' : HistoryView)
    → RoundJoins one.id other.id one.history other.history h' g'

-- a round ends when j has received the answers of i: it has no answer to those
abbrev pub GossipRoundEnds : Type 0
GossipRoundEnds = (i j : ℕ) (h g h' g' : HistoryView) → IsHistory h
    → (round : HistoryRound i j h g h' g') → round.last ≡ []

-- a replica answers nothing to the digests of the history that it has
abbrev pub OwnDigestsUnanswered : Type 0
OwnDigestsUnanswered = (i j : ℕ) (h : HistoryView) (answers : List Message) → IsHistory h
    → IsAnswer j h (offer i h) answers → answers ≡ []

-- receiving the entries of a history is receiving all references for which it stands
abbrev pub EntriesBringAll : Type 0
EntriesBringAll = (sender : ℕ) (S R : ReferenceSet)
    → history_after (history S) (Entries sender R.horizon (entries_of (history R)))
    ≡ history (S ∪ R)
