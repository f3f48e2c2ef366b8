-- What shards were given, all together, and what a thread's calls gave them.
use Rattle.std.specs.Prelude.{◌≡◌, ℕ, zero, suc, ◌<◌, List, [], ◌∷◌, ◌++◌, length, map, Some, Ok}
use Rattle.std.specs.Prelude.{Result, slice_index_or}
use mathlib.Core.Option.{some}
use mathlib.Core.List.{IsPrefix}
use lib.ListN.{get_elem?}
use Rattle.warm_stamps.specs.declared.PageId.{PageId}
use Rattle.warm_stamps.specs.declared.Reference.{Reference}
use Rattle.warm_history.specs.ReferenceSets.{ReferenceSet, set_of_list, ◌∪◌}
use Rattle.warm_history.specs.References.{IsIn}
use Rattle.warm_history.specs.Histories.{HistoryView, StandsFor}
use Rattle.warm_history.specs.Histories.{references_of}
use Rattle.warm_rank.specs.Laws.{IsFarthest}
use Rattle.warm_frames.specs.declared.message.Message.{Message}
use Rattle.warm_pool.specs.View.{unfixed_pages, view_of}
use Rattle.warm_turn.specs.declared.fault.Busy.{Busy}
use Rattle.warm_turn.specs.declared.table.EndedPass.{EndedPass}
use Rattle.warm_machine.specs.Runs.{Runs, operation}
use Rattle.warm_turn.specs.CallHistories.{EachIsBy, HoldsNumber, calls_by}
use Rattle.warm_turn.specs.Shares.{IsWhole}
use Rattle.warm_peer.specs.Answers.{refs_in}
use Rattle.warm_gossip.specs.State.{NodeState}
use Rattle.warm_gossip.specs.Victims.{IsEvicted}
use Rattle.warm_shards.specs.Shards.{AreShards, shard_at, whole}
use Rattle.warm_visits.specs.ShardNumbers.{IsShardCount, of_first_shards}
use Rattle.warm_visits.specs.declared.stage.Stage.{Stage}
use Rattle.warm_visits.specs.declared.stage.Stage.TheVariants.{Raising}
use Rattle.warm_visits.specs.Visits.{VisitState, absorb_visit, copy_visit, join_visit, offer_visit}
use Rattle.warm_visits.specs.Visits.{receive_visit}
use Rattle.warm_shard_machine.specs.declared.calls.ShardCall.{ShardCall}
use Rattle.warm_shard_machine.specs.declared.calls.ShardCall.TheVariants.{Raise, Pin, Look}
use Rattle.warm_shard_machine.specs.declared.calls.ShardCall.TheVariants.{Change, PinFilled}
use Rattle.warm_shard_machine.specs.declared.calls.ShardCall.TheVariants.{PinZeroed, Victim}
use Rattle.warm_shard_machine.specs.declared.calls.ShardCall.TheVariants.{Enter, WarmStep}
use Rattle.warm_shard_machine.specs.declared.calls.ShardReply.{ShardReply}
use Rattle.warm_shard_machine.specs.declared.calls.ShardReply.TheVariants.{Done, Entered, Kept}
use Rattle.warm_shard_machine.specs.declared.calls.ShardReply.TheVariants.{Page}
use Rattle.warm_concurrent.specs.declared.fault.SharedFault.{SharedFault}
use Rattle.warm_concurrent.specs.Attached.{Known, ShardPass, ShardTurn, known_of, opened_id}
use Rattle.warm_concurrent.specs.Attached.{shard_turn}
use Rattle.warm_concurrent.specs.Clauses.{AnsweredByShard, CallFails}
use Rattle.warm_concurrent.specs.Laws.{all_of}
use Rattle.warm_concurrent.specs.Opening.{AreClosed, AreFirst, AreHalved, PassesAreJoined, AreSplit}
use Rattle.warm_concurrent.specs.Opening.{openings, shards_over}
use Rattle.warm_shard_machine.specs.Entering.{gave_entry}
use Rattle.warm_shard_machine.specs.Laws.{Log}
use Rattle.warm_shard_machine.specs.ShardSteps.{ShardState, ShardStep}
use Rattle.warm_concurrent.specs.Visiting.{GoesByTurns, IsGoneThrough, StageFails, VisitFails}
use Rattle.warm_concurrent.specs.Whole.{DoneFirst, RaiseFails, RaisesFirst}

-- Sets of references

-- S and T have the same references, whatever their order, at the same horizon
pub record SameGiven (S T : ReferenceSet) : Type 0 where
  pub horizon : S.horizon ≡ T.horizon
  pub there : (r : Reference) → IsIn r S.given → IsIn r T.given
  pub back : (r : Reference) → IsIn r T.given → IsIn r S.given

-- no reference, at this horizon
abbrev pub only_horizon : ℕ → ReferenceSet
only_horizon time = record { horizon = time; given = [] }

-- What calls gave

-- the list of the shard of this number
abbrev pub log_at : List Log → ℕ → Log
log_at logs i = slice_index_or logs i []

-- what a call with this reply gave its shard: a horizon, or what an errand of a visit gives
abbrev pub gave_call : ShardCall → ShardReply → ReferenceSet
gave_call (Raise time) (Kept horizon) = only_horizon time
gave_call (Enter count number v) (Entered w) = gave_entry v w
gave_call call reply = set_of_list []

-- what these calls gave their shard
abbrev pub gave : Log → ReferenceSet
gave [] = set_of_list []
gave (e ∷ es) = gave_call e.call e.reply ∪ gave es

-- what the calls of all shards gave, together
abbrev pub gave_together : List Log → ReferenceSet
gave_together logs = all_of (map gave logs)

-- After a close

-- The log of a closed shard: a legal list of its calls leads from its opening to the node that is
-- given back. It begins with what the pass has seen, has the calls of the pass, and of each pass
-- that was ended into it the calls of that one. If the pass has the whole right to close, there are
-- no others.
pub record IsLog (turn : ShardTurn) (known : Known) (node : NodeState) (log : Log) : Type 0 where
  pub last : ShardState
  pub node_is : last.node ≡ node
  pub reaches : Runs ShardStep turn.opening log last
  pub begins : IsPrefix known.seen log
  pub own : calls_by known.number log ≡ known.mine
  pub others : (a : ℕ) (e : EndedPass ShardCall ShardReply) → get_elem? known.ended a ≡ some e
      → calls_by e.number log ≡ e.calls
  pub all : IsWhole known.share → EachIsBy (HoldsNumber known) log

-- the logs of the closed shards, one for each: a legal list of its calls, from its opening to the
-- node that is given back
pub record AreLogs (turns : List ShardTurn) (passes : List ShardPass) (nodes : List NodeState)
    (logs : List Log) : Type 0 where
  pub count : length logs ≡ length turns
  pub each : (i : ℕ) → i < length turns
      → IsLog (shard_turn turns i) (known_of passes i) (shard_at nodes i) (log_at logs i)

-- The headline: shards that opened with nodes which together stand for S, and were closed to these
-- nodes. Together these hold the two latest stamps of every page among S and all references that
-- any call gave any shard, not older than the latest horizon that any call gave.
abbrev pub SharedIsOfGiven : Type 0
SharedIsOfGiven = (S : ReferenceSet) (opened : List NodeState) (turns : List ShardTurn)
    (passes : List ShardPass) (nodes : List NodeState) → AreShards opened
    → openings turns ≡ shards_over opened → StandsFor (whole opened) S
    → AreClosed turns passes (map (λ n. Ok n) nodes)
    → (logs : List Log) × AreLogs turns passes nodes logs
    × StandsFor (whole nodes) (S ∪ gave_together logs)

-- What a thread gave

-- `more` are the calls that a thread has made of each shard from old to new, in their order
pub record HasMade (old new : List ShardPass) (more : List Log) : Type 0 where
  pub count : length more ≡ length old
  pub numbers : (i : ℕ) → i < length old → (known_of new i).number ≡ (known_of old i).number
  pub each : (i : ℕ) → i < length old
      → (known_of new i).mine ≡ (known_of old i).mine ++ log_at more i

-- together the calls that a thread has made from old to new gave just the references of S, at its
-- horizon
abbrev pub HasGiven : ReferenceSet → List ShardPass → List ShardPass → Type 0
HasGiven S old new = (more : List Log) × HasMade old new more × SameGiven (gave_together more) S

-- together the calls that a thread has made from old to new gave no reference and no horizon
abbrev pub HasGivenNothing : List ShardPass → List ShardPass → Type 0
HasGivenNothing old new = HasGiven (set_of_list []) old new

-- what the first k of these shards have of a set of which each gets its part: nothing, if k is 0
abbrev pub given_to_first : ℕ → ℕ → ReferenceSet → ReferenceSet
given_to_first count zero S = set_of_list []
given_to_first count (suc k) S = of_first_shards count (suc k) S

-- What a visit has given that first brings all of `count` shards the horizon of S, and then each its
-- part, and that is at shard k in this stage: while it raises, the horizon to the shards before;
-- later the horizon to all, and their parts to the shards before.
abbrev pub given_up_to : Stage → ℕ → ℕ → ReferenceSet → ReferenceSet
given_up_to Raising count k S = given_to_first count k (only_horizon S.horizon)
given_up_to stage count k S = only_horizon S.horizon ∪ given_to_first count k S

-- What a thread's call gave: the batch that it absorbed, the horizon that it raised, or the
-- references and the horizon of the message that it received, or of the history that it joined; of
-- each of these that stopped at a shard, just the parts of the shards before, and of the last two the
-- horizon; and what any other call of one shard gave that one. A call of one shard that was refused
-- gave nothing, and neither did any other call of several shards, however far it went. One of these
-- that is no visit and stops at a shard is such a call of the shards before, and one that is refused.
pub record CallsAreGiven (old new : List ShardPass) : Type 0 where
  pub absorbed : (id : ℕ) (batch : List Reference)
      → IsGoneThrough (absorb_visit id (length old) batch) old new
      → HasGiven (set_of_list batch) old new
  pub batch_stopped : (id : ℕ) (batch : List Reference) (k : ℕ) (why : SharedFault)
      → VisitFails (absorb_visit id (length old) batch) k why old new
      → HasGiven (given_to_first (length old) k (set_of_list batch)) old new
  pub raised : (time : ℕ) → RaisesFirst time (length old) old new
      → HasGiven (only_horizon time) old new
  pub raise_stopped : (time k : ℕ) (why : SharedFault) → RaiseFails time k why old new
      → HasGiven (given_to_first (length old) k (only_horizon time)) old new
  pub received : (id : ℕ) (message : Message)
      → IsGoneThrough (receive_visit id (length old) message) old new
      → HasGiven (refs_in message) old new
  pub receipt_stopped : (id : ℕ) (message : Message) (stage : Stage) (k : ℕ) (why : SharedFault)
      → StageFails (receive_visit id (length old) message) stage k why old new
      → HasGiven (given_up_to stage (length old) k (refs_in message)) old new
  pub joined : (id : ℕ) (h : HistoryView) → IsGoneThrough (join_visit id (length old) h) old new
      → HasGiven (references_of h) old new
  pub join_stopped : (id : ℕ) (h : HistoryView) (stage : Stage) (k : ℕ) (why : SharedFault)
      → StageFails (join_visit id (length old) h) stage k why old new
      → HasGiven (given_up_to stage (length old) k (references_of h)) old new
  pub called : (i : ℕ) (call : ShardCall) (reply : ShardReply) → i < length old
      → AnsweredByShard old i call reply new → HasGiven (gave_call call reply) old new
  pub refused : (i : ℕ) (call : ShardCall) (why : SharedFault) → i < length old
      → CallFails old i call why new → HasGivenNothing old new
  pub done : (call : ShardCall) (k : ℕ) → gave_call call Done ≡ set_of_list []
      → DoneFirst call k old new → HasGivenNothing old new
  pub offered : (id : ℕ) (w : VisitState) → GoesByTurns (offer_visit id (length old)) old w new
      → HasGivenNothing old new
  pub copied : (id : ℕ) (w : VisitState) → GoesByTurns (copy_visit id (length old)) old w new
      → HasGivenNothing old new

-- each call of a thread, over any number of shards, gives what `CallsAreGiven` says
abbrev pub ThreadsGive : Type 0
ThreadsGive = (old new : List ShardPass) → IsShardCount (length old) → CallsAreGiven old new

-- Two threads, used

-- A thread shares shards that stand for S, and attaches another. Each absorbs a batch, and the
-- other is detached into the first, which closes the shards. Then all nodes come back, and together
-- stand for S and both batches.
abbrev pub TwoThreadsAreHeld : Type 0
TwoThreadsAreHeld = (S : ReferenceSet) (opened : List NodeState) (turns : List ShardTurn)
    (first here there mine yours all : List ShardPass) (one two : List Reference)
    (results : List (Result NodeState Busy)) → AreShards opened
    → openings turns ≡ shards_over opened → StandsFor (whole opened) S → AreFirst turns first
    → AreHalved first here → AreSplit first there
    → IsGoneThrough (absorb_visit (opened_id turns) (length turns) one) here mine
    → IsGoneThrough (absorb_visit (opened_id turns) (length turns) two) there yours
    → PassesAreJoined mine yours all → AreClosed turns all results
    → (nodes : List NodeState) × (results ≡ map (λ n. Ok n) nodes)
    × StandsFor (whole nodes) (S ∪ (set_of_list one ∪ set_of_list two))

-- Victims

-- the calls that put a page into a frame: one that the caller names, or the next one to warm up
abbrev pub FillsFrame : ShardCall → Type 0
FillsFrame (Pin page) = Unit {0}
FillsFrame (PinZeroed page) = Unit {0}
FillsFrame (PinFilled page bytes) = Unit {0}
FillsFrame (Look page) = Unit {0}
FillsFrame (Change page) = Unit {0}
FillsFrame WarmStep = Unit {0}
FillsFrame call = ⊥

-- The page that a shard names as its victim, and each that leaves it when a page is put into a
-- frame, is farthest back over these references, among its unpinned resident pages.
pub record VictimsOver (G : ReferenceSet) (was : ShardState) (call : ShardCall)
    (reply : ShardReply) (is : ShardState) : Type 0 where
  pub named : (v : PageId) → call ≡ Victim → reply ≡ Page (Some v)
      → IsFarthest G (unfixed_pages (view_of was.node.pool)) v
  pub leaves : (v : PageId) → FillsFrame call
      → IsEvicted (view_of was.node.pool) (view_of is.node.pool) v
      → IsFarthest G (unfixed_pages (view_of was.node.pool)) v

-- A call that a shard answered: the calls of its log before, and its states before and after.
pub record AnswersAfter (opening : ShardState) (old new : Known) (call : ShardCall)
    (reply : ShardReply) (before : Log) (was is : ShardState) : Type 0 where
  pub seen : new.seen ≡ before ++ operation old.number call reply ∷ []
  pub begins : IsPrefix old.seen before
  pub reaches : Runs ShardStep opening before was
  pub steps : ShardStep was call reply is

-- In every legal run of the calls of a shard, whichever threads made them, its victims are farthest
-- back over what it opened with and what the calls before had given it, not older than its horizon.
-- Each call that a thread saw answered stands in such a run, after all that the thread had seen.
pub record SharedVictims : Type 0 where
  pub each : (S : ReferenceSet) (opening was is : ShardState) (before : Log) (call : ShardCall)
      (reply : ShardReply) → StandsFor opening.node.history S → Runs ShardStep opening before was
      → ShardStep was call reply is → VictimsOver (S ∪ gave before) was call reply is
  pub answered : (opening : ShardState) (old new : List ShardPass) (i : ℕ) (call : ShardCall)
      (reply : ShardReply) → (known_of old i).opening ≡ Some opening
      → AnsweredByShard old i call reply new
      → (before : Log) × (was : ShardState) × (is : ShardState)
      × AnswersAfter opening (known_of old i) (known_of new i) call reply before was is
