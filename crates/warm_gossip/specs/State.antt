-- A node as plain data, and what a caller sees of it.
use Rattle.std.specs.Prelude.{ℕ, []}
use Rattle.warm_history.specs.Histories.{HistoryView, history_of_entries}
use Rattle.warm_peer.specs.State.{PeerState}
use Rattle.warm_pool.specs.State.{PoolState}
use Rattle.warm_pool.specs.View.{view_of, PoolView}

-- a node: its replica number, its history, and its pool
pub record NodeState : Type 0 where
  pub id : ℕ
  pub history : HistoryView
  pub pool : PoolState

-- a peer beside a pool
abbrev pub node_of : PeerState → PoolState → NodeState
node_of peer pool = record { id = peer.id; history = peer.history; pool = pool }

-- the peer in a node: all but the pool
abbrev pub peer_of : NodeState → PeerState
peer_of s = record { id = s.id; history = s.history }

-- a node, with what a caller sees of its pool
pub record NodeView : Type 0 where
  pub id : ℕ
  pub history : HistoryView
  pub pool : PoolView

-- what a caller sees of a node
abbrev pub node_view : NodeState → NodeView
node_view s = record { id = s.id; history = s.history; pool = view_of s.pool }

-- a node without references
abbrev pub opened_node : ℕ → PoolState → NodeState
opened_node id pool = record { id = id; history = history_of_entries []; pool = pool }

-- a node without references and without a pool
abbrev pub empty_node : NodeView
empty_node =
    record {
      id = 0;
      history = history_of_entries [];
      pool = record { page_size = 0; devices = []; frames = []; contents = []; failures = [] };
    }
