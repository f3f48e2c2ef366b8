-- All shards together have what they were given.
use Rattle.std.proofs.Common.{◌≡◌, ℕ, zero, suc, ◌<◌, List, [], ◌∷◌, ◌++◌, length, map, get_or, Result, Ok, refl, sym, ap, subst, ◌∙◌, arith}
use Rattle.std.proofs.lemmas.List.{get_or-map, length-append, length-map}
use Rattle.warm_history.specs.ReferenceSets.{ReferenceSet, set_of_list, ◌∪◌}
use Rattle.warm_history.specs.Histories.{StandsFor, history, references_of}
use Rattle.warm_history.proofs.JoinLemmas.{both_assoc, history_first, history_of_own_references, history_second}
use Rattle.warm_turn.specs.declared.fault.Busy.{Busy}
use Rattle.warm_machine.specs.declared.operation.Operation.{Operation}
use Rattle.warm_machine.specs.Runs.{Runs}
use Rattle.warm_gossip.specs.State.{NodeState}
use Rattle.warm_shards.specs.Shards.{held, no_shard, shard_at, whole}
use Rattle.warm_shards.proofs.WholeLemmas.{last_two}
use Rattle.warm_shard_machine.specs.declared.calls.ShardCall.{ShardCall}
use Rattle.warm_shard_machine.specs.declared.calls.ShardCall.TheVariants.{Enter, Raise}
use Rattle.warm_shard_machine.specs.declared.calls.ShardReply.{ShardReply}
use Rattle.warm_shard_machine.specs.declared.calls.ShardReply.TheVariants.{Entered, Foreign, Kept}
use Rattle.warm_concurrent.specs.Attached.{Known, ShardPass, ShardTurn, known_of, shard_turn}
use Rattle.warm_concurrent.specs.Given.{IsLog, SharedIsOfGiven, gave, gave_call, gave_together, log_at}
use Rattle.warm_shard_machine.specs.Laws.{Log, asked_steps, given_by_steps, given_to_shard, node_steps}
use Rattle.warm_concurrent.specs.Opening.{AreClosed, ClosesShard, openings, shards_over, state_at}
use Rattle.warm_shard_machine.specs.ShardSteps.{ShardState, ShardStep, Work, asked_of}
use Rattle.warm_concurrent.proofs.OwnPageLemmas.{node_at}
use Rattle.warm_shard_machine.proofs.NodeStepLemmas.{foreign_none, given_after, shard_is_of_given}
use Rattle.warm_concurrent.proofs.ShardNumberLemmas.{from_long, opening_at}
use Rattle.warm_concurrent.proofs.ListLemmas.{push_each}
use Rattle.warm_concurrent.proofs.ReferenceSetLemmas.{union_none}

-- ---- what a call gave, and what it gave the node

foreign_gave : (c : ShardCall) → gave_call c Foreign ≡ set_of_list []
foreign_gave (Raise time) = refl
foreign_gave (Enter count number v) = refl
foreign_gave c = refl

call_gave : (S : ReferenceSet) (by : ℕ) (c : ShardCall) (r : ShardReply)
    → given_by_steps S (asked_steps by (asked_of c) r) ≡ S ∪ gave_call c r
call_gave S by c Foreign =
    ap (λ (es : List (Operation Work ShardReply)). given_by_steps S es) (foreign_none by (asked_of c))
    ∙ sym (union_none S) ∙ ap (λ T. S ∪ T) (sym (foreign_gave c))
call_gave S by (Raise time) (Kept horizon) = refl
call_gave S by (Raise time) r = sym (union_none S)
call_gave S by (Enter count number v) (Entered w) = refl
call_gave S by (Enter count number v) r = sym (union_none S)
call_gave S by c r = sym (union_none S)

pub shard_gave : (S : ReferenceSet) (log : Log) → given_to_shard S log ≡ S ∪ gave log
shard_gave S [] = sym (union_none S)
shard_gave S (e ∷ es) =
    sym (given_after S (asked_steps e.by (asked_of e.call) e.reply) (node_steps es))
    ∙ ap (λ T. given_by_steps T (node_steps es)) (call_gave S e.by e.call e.reply)
    ∙ shard_gave (S ∪ gave_call e.call e.reply) es
    ∙ both_assoc S (gave_call e.call e.reply) (gave es)

-- a run leads to the history of what was given before and of what its calls gave
pub run_gave : (S : ReferenceSet) (o z : ShardState) (log : Log) → StandsFor o.node.history S
    → Runs ShardStep o log z → StandsFor z.node.history (S ∪ gave log)
run_gave S o z log stands runs = shard_is_of_given S o z log stands runs ∙ ap history (shard_gave S log)

-- ---- all shards together

-- each new node has the history of what the old one held and of what the calls of its log gave
abbrev EachGave : List NodeState → List Log → List NodeState → Type 0
EachGave old logs new = (i : ℕ) → i < length old
    → (shard_at new i).history ≡ history (references_of (shard_at old i).history ∪ gave (log_at logs i))

-- the first of both, and the others of both
four : (A B C D : ReferenceSet) → history ((A ∪ B) ∪ (C ∪ D)) ≡ history ((A ∪ C) ∪ (B ∪ D))
four A B C D =
    ap history (sym (both_assoc (A ∪ B) C D))
    ∙ sym (history_first ((A ∪ B) ∪ C) D)
    ∙ ap (λ h. history (references_of h ∪ D)) (last_two A B C)
    ∙ history_first ((A ∪ C) ∪ B) D
    ∙ ap history (both_assoc (A ∪ C) B D)

together : (old : List NodeState) (logs : List Log) (new : List NodeState)
    → length new ≡ length old → length logs ≡ length old → EachGave old logs new
    → whole new ≡ history (held old ∪ gave_together logs)
together [] [] [] long all each = refl
together [] (l ∷ ls) new long all each = absurd (omega (arith, all))
together [] [] (m ∷ ms) long all each = absurd (omega (arith, long))
together (n ∷ ns) [] new long all each = absurd (omega (arith, all))
together (n ∷ ns) (l ∷ ls) [] long all each = absurd (omega (arith, long))
together (n ∷ ns) (l ∷ ls) (m ∷ ms) long all each =
    let A = references_of n.history in
    let rest = together ns ls ms (omega (arith, long)) (omega (arith, all)) (λ i lt. each (suc i) (omega (arith, lt))) in
    ap (λ h. history (references_of h ∪ held ms)) (each 0 (omega arith))
    ∙ history_first (A ∪ gave l) (held ms)
    ∙ sym (history_second (A ∪ gave l) (held ms))
    ∙ ap (λ h. history ((A ∪ gave l) ∪ references_of h)) rest
    ∙ history_second (A ∪ gave l) (held ns ∪ gave_together ls)
    ∙ four A (gave l) (held ns) (gave_together ls)

-- ---- the logs of a close

pub closed_log : (turn : ShardTurn) (known : Known) (node : NodeState)
    → ClosesShard turn known (Ok node)
    → (log : Log) × IsLog turn known node log
closed_log turn known node (last, same, is) = (
  is.history,
  record {
    last = last;
    node_is = same;
    reaches = is.reaches;
    begins = is.begins;
    own = is.own;
    others = is.others;
    all = is.all;
  },
)

-- lists of what each place has
gather : {A : Type 0} (P : ℕ → A → Type 0) (d : A) (k : ℕ)
    → ((i : ℕ) → i < k → (a : A) × P i a)
    → (items : List A) × (length items ≡ k)
    × ((i : ℕ) → i < k → P i (get_or items i d))
gather P d zero each = ([], refl, λ i lt. absurd (omega (arith, lt)))
gather P d (suc k) each =
    let rest = gather P d k (λ i lt. each i (omega (arith, lt))) in
    let last = each k (omega arith) in (
      rest.0 ++ last.0 ∷ [],
      length-append rest.0 (last.0 ∷ []) ∙ omega (arith, rest.1),
      λ i lt. push_each P rest.0 last.0 d k rest.1 rest.2 last.1 i (omega (arith, lt)),
    )

-- the shard of this number opened with the node of its place
pub opened_node : (opened : List NodeState) (turns : List ShardTurn) (i : ℕ)
    → openings turns ≡ shards_over opened → i < length opened
    → (shard_turn turns i).opening.node ≡ shard_at opened i
opened_node opened turns i opens lt =
    ap (λ (s : ShardState). s.node) (sym (opening_at turns i) ∙ ap (λ (ss : List ShardState). state_at ss i) opens)
    ∙ node_at (length opened) 0 opened i lt

pub turns_long : (opened : List NodeState) (turns : List ShardTurn)
    → openings turns ≡ shards_over opened → length turns ≡ length opened
turns_long opened turns opens =
    sym (length-map turns (λ t. t.opening)) ∙ ap length opens ∙ from_long (length opened) 0 opened

no_result : Result NodeState Busy
no_result = Ok no_shard

pub closed_node : (turns : List ShardTurn) (passes : List ShardPass) (nodes : List NodeState) (i : ℕ)
    → AreClosed turns passes (map (λ n. Ok n) nodes) → i < length turns
    → ClosesShard (shard_turn turns i) (known_of passes i) (Ok (shard_at nodes i))
closed_node turns passes nodes i closed lt =
    let long : length nodes ≡ length turns = sym (length-map nodes (λ n. let r : Result NodeState Busy = Ok n in r)) ∙ closed.count in
    subst (ClosesShard (shard_turn turns i) (known_of passes i)) (get_or-map (λ n. let r : Result NodeState Busy = Ok n in r) nodes i no_shard no_result (omega (arith, lt, long))) (closed.each i no_result lt)

pub shared_is_of_given : SharedIsOfGiven
shared_is_of_given S opened turns passes nodes are opens stands closed =
    let long : length turns ≡ length opened = turns_long opened turns opens in
    let back : length nodes ≡ length turns = sym (length-map nodes (λ n. let r : Result NodeState Busy = Ok n in r)) ∙ closed.count in
    let all = gather (λ i log. IsLog (shard_turn turns i) (known_of passes i) (shard_at nodes i) log) [] (length turns)
    (λ i lt. closed_log (shard_turn turns i) (known_of passes i) (shard_at nodes i) (closed_node turns passes nodes i closed lt)) in
    let each : EachGave opened all.0 nodes = λ i lt.
    let log = all.2 i (omega (arith, lt, long)) in
    let h = (shard_at opened i).history in
    let own : (shard_turn turns i).opening.node.history ≡ history (references_of h) = ap (λ (n : NodeState). n.history) (opened_node opened turns i opens lt) ∙ sym (history_of_own_references h (are.each i lt).valid) in
    ap (λ (n : NodeState). n.history) (sym log.node_is)
    ∙ run_gave (references_of h) (shard_turn turns i).opening log.last (log_at all.0 i) own log.reaches
    in
    let G = gave_together all.0 in (
      all.0,
      record { count = all.1; each = all.2 },
      together opened all.0 nodes (back ∙ long) (all.1 ∙ long) each
          ∙ sym (history_first (held opened) G)
          ∙ ap (λ h. history (references_of h ∪ G)) stands
          ∙ history_first S G,
    )
