-- A node that absorbs a batch, or joins entries, is given references, or refuses them.
use Rattle.std.proofs.Common.{◌≡◌, List, refl, ℕ, Result, Ok, Err}
use Rattle.warm_stamps.specs.declared.Reference.{Reference}
use Rattle.warm_pool.specs.Unchanged.{KeepsBytes}
use Rattle.warm_pool.specs.State.{PoolState}
use Rattle.warm_gossip.specs.State.{NodeState, node_view}
use Rattle.warm_gossip.specs.declared.call.Call.TheVariants.{Absorb}
use Rattle.warm_gossip.specs.declared.call.Reply.TheVariants.{Refused}
use Rattle.warm_gossip.specs.declared.fault.NodeFault.{NodeFault}
use Rattle.warm_gossip.specs.declared.fault.NodeFault.TheVariants.{Memory, Pool, StaleSlot}
use Rattle.warm_gossip.specs.Clauses.{Goes, Answered, DevicesAnswered, JoinsEntries, SameView, done}
use Rattle.std.specs.Prelude.{IfErr, OnOk}
use Rattle.warm_history.specs.Entry.{Entry}
use Rattle.warm_history.specs.ReferenceSets.{set_of_list}
use Rattle.warm_history.specs.Histories.{history_of_entries_at, references_of}
use Rattle.warm_visits.specs.Given.{GivesOne}

pub bytes_same : (a : PoolState) → KeepsBytes a a
bytes_same a = record { devices = refl; bytes = λ k. refl; dirty = λ k. refl }

pub absorb_refused : (n m : NodeState) (batch : List Reference) (why : NodeFault)
    → Goes n (Absorb batch) (Refused why) m → (why ≡ Memory) × (node_view m ≡ node_view n)
absorb_refused n m batch Memory same = (refl, same)
absorb_refused n m batch (Pool why) none = absurd none
absorb_refused n m batch StaleSlot none = absurd none

-- ---- a batch, and entries

pub absorbs : (batch : List Reference) (n m : NodeState) (result : Result Unit NodeFault)
    → Answered n (Absorb batch) done result m → DevicesAnswered n (Absorb batch) done result m
    → GivesOne (set_of_list batch) n result m
absorbs batch n m (Ok given) step devices = record { given = (step, devices); refused = tt }
absorbs batch n m (Err why) step devices =
    let refused = absorb_refused n m batch why step in
    record { given = tt; refused = (refused.0, (refused.1, devices)) }

pub joins : (horizon : ℕ) (es : List Entry) (n m : NodeState) (result : Result Unit NodeFault)
    → OnOk result (JoinsEntries n horizon es m)
    → IfErr result (λ why. (why ≡ Memory) × SameView n m) → KeepsBytes n.pool m.pool
    → GivesOne (references_of (history_of_entries_at horizon es)) n result m
joins horizon es n m (Ok given) joined refused devices = record { given = (joined, devices); refused = tt }
joins horizon es n m (Err why) joined refused devices = record { given = tt; refused = (refused.0, (refused.1, devices)) }
