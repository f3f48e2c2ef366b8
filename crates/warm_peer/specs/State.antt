-- A peer as plain data.
use Rattle.std.specs.Prelude.{ℕ, []}
use Rattle.warm_history.specs.Histories.{HistoryView, history_of_entries}

-- a peer: its replica number and its history
pub record PeerState : Type 0 where
  pub id : ℕ
  pub history : HistoryView

-- a peer without references
abbrev pub opened_peer : ℕ → PeerState
opened_peer id = record { id = id; history = history_of_entries [] }
