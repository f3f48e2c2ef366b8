-- The text printed for replicas whose workers have ended and which have exchanged their histories.
use Rattle.std.specs.Prelude.{ℕ, ◌+◌, List, [], ◌∷◌, ◌++◌, codes, decimal}
use Rattle.warm_history.specs.Histories.{HistoryView, entries_of}
use Rattle.warm_gossip.specs.State.{NodeView}
use Rattle.warm_player.specs.Answers.{shown_text}

-- the replica of this number, and what `show` prints of its history
abbrev pub replica_text : ℕ → HistoryView → List ℕ
replica_text i history = codes "replica " ++ decimal i ++ codes "\n"
    ++ shown_text (entries_of history)

-- replicas one after the other, of which the first has this number, and what `show` prints of the
-- history of each
abbrev pub replicas_text : ℕ → List NodeView → List ℕ
replicas_text i [] = []
replicas_text i (node ∷ rest) = replica_text i node.history ++ replicas_text (i + 1) rest
