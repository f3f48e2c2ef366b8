-- The pins that a close leaves.
use Rattle.std.specs.List.{sum_by}
use Rattle.std.proofs.Common.{◌≡◌, inl, inr, ℕ, suc, ◌+◌, ◌<◌, List, [], ◌∷◌, length, map, get_or, Result, Ok, refl, sym, ap, subst, ◌∙◌, arith}
use Rattle.std.proofs.lemmas.List.{get_or_past, length-map}
use Rattle.std.proofs.lemmas.List.Sums.{get_or-le-sum_by, sum_by-cons}
use Rattle.warm_turn.specs.Shares.{IsWhole}
use Rattle.warm_turn.specs.declared.fault.Busy.{Busy}
use Rattle.warm_pool.specs.View.{FrameView, view_of}
use Rattle.warm_gossip.specs.State.{NodeState}
use Rattle.warm_shards.specs.Shards.{no_shard, shard_at}
use Rattle.warm_concurrent.specs.Attached.{AreOf, AttachedView, Known, ShardPass, ShardTurn, known_of, shard_pass, shard_turn}
use Rattle.warm_concurrent.specs.Opening.{AreClosed, ClosesShard, openings, shards_over}
use Rattle.warm_concurrent.specs.Pins.{ClosesUnpinned, IsCounted, NoneIsPinned, PinsComeBack, all_pins, calls_held}
use Rattle.warm_shard_machine.specs.Pins.{pin_by, pins_in, pool_pins, unpin_by}
use Rattle.warm_concurrent.proofs.ClosedShardLemmas.{closed_node, opened_node, turns_long}
use Rattle.std.proofs.lemmas.Bool.{cases_lt}
use Rattle.warm_concurrent.proofs.CallSumLemmas.{log_total, total}
use Rattle.warm_concurrent.specs.Rights.{HasWholeRight}
use Rattle.warm_shard_machine.proofs.PoolPinLemmas.{IsFree, pool_free}
use Rattle.warm_concurrent.proofs.CloseRightLemmas.{closed_gives_back}
use Rattle.warm_shard_machine.proofs.ShardPinLemmas.{run_moves}
use Rattle.warm_gossip.proofs.VictimLemmas.{no_frame}
use Rattle.warm_concurrent.proofs.ThreadPinLemmas.{no_sum, thread_is, weight}

-- one shard: its log has the calls that the pass holds, and no others
closed_pins : (turn : ShardTurn) (known : Known) (node : NodeState)
    → IsFree (view_of turn.opening.node.pool) → IsWhole known.share → ClosesShard turn known (Ok node)
    → pool_pins node + total unpin_by (calls_held known)
    ≡ pool_pins turn.opening.node + total pin_by (calls_held known)
closed_pins turn known node free right (last, same, is) =
    let log = is.history in
    let run = run_moves turn.opening last log free is.reaches in
    let given = log_total pin_by known.number known.mine log known.ended is.own is.others (λ a e at. (is.legal.others a e at).1) is.legal.apart (is.all right) in
    let removed = log_total unpin_by known.number known.mine log known.ended is.own is.others (λ a e at. (is.legal.others a e at).1) is.legal.apart (is.all right) in
    let here : pool_pins last.node ≡ pool_pins node = ap pool_pins same in
    omega (arith, run, given, removed, here)

-- all shards together
all_closed : (ns os : List NodeState) (ps : List ShardPass) → length ns ≡ length ps
    → length os ≡ length ps
    → ((i : ℕ) → i < length ps
    → pool_pins (shard_at ns i) + weight unpin_by (shard_pass ps i)
    ≡ pool_pins (shard_at os i) + weight pin_by (shard_pass ps i))
    → all_pins ns + sum_by (weight unpin_by) ps ≡ all_pins os + sum_by (weight pin_by) ps
all_closed [] [] [] long also each = refl
all_closed [] [] (p ∷ ps) long also each = absurd (omega (arith, long))
all_closed [] (o ∷ os) [] long also each = absurd (omega (arith, also))
all_closed [] (o ∷ os) (p ∷ ps) long also each = absurd (omega (arith, long))
all_closed (n ∷ ns) os [] long also each = absurd (omega (arith, long))
all_closed (n ∷ ns) [] (p ∷ ps) long also each = absurd (omega (arith, also))
all_closed (n ∷ ns) (o ∷ os) (p ∷ ps) long also each =
    let new = sum_by-cons pool_pins n ns in
    let old = sum_by-cons pool_pins o os in
    let removed = sum_by-cons (weight unpin_by) p ps in
    let given = sum_by-cons (weight pin_by) p ps in
    let first = each 0 (omega arith) in
    let rest = all_closed ns os ps (omega (arith, long)) (omega (arith, also)) (λ i lt. each (suc i) (omega (arith, lt))) in
    omega (arith, new, old, removed, given, first, rest)

-- if no frame without a page was pinned
come_back : (opened : List NodeState) (turns : List ShardTurn) (thread : AttachedView)
    (nodes : List NodeState) → openings turns ≡ shards_over opened
    → ((i : ℕ) → i < length opened → IsFree (view_of (shard_at opened i).pool))
    → AreOf turns thread.passes → IsCounted thread → HasWholeRight (length turns) thread.passes
    → AreClosed turns thread.passes (map (λ n. Ok n) nodes)
    → all_pins nodes ≡ all_pins opened + thread.pins
come_back opened turns thread nodes opens free are counted right closed =
    let ps = thread.passes in
    let back : length nodes ≡ length turns = sym (length-map nodes (λ n. let r : Result NodeState Busy = Ok n in r)) ∙ closed.count in
    let long : length turns ≡ length opened = turns_long opened turns opens in
    let each : (i : ℕ) → i < length ps → pool_pins (shard_at nodes i) + weight unpin_by (shard_pass ps i) ≡ pool_pins (shard_at opened i) + weight pin_by (shard_pass ps i) =
    λ i lt.
    let less : i < length turns = omega (arith, lt, are.count) in
    let here : i < length opened = omega (arith, less, long) in
    let is : (shard_turn turns i).opening.node ≡ shard_at opened i = opened_node opened turns i opens here in
    let own : IsFree (view_of (shard_turn turns i).opening.node.pool) = subst (λ (n : NodeState). IsFree (view_of n.pool)) (sym is) (free i here) in
    let one = closed_pins (shard_turn turns i) (known_of ps i) (shard_at nodes i) own (right i less) (closed_node turns ps nodes i closed less) in
    let first : pool_pins (shard_turn turns i).opening.node ≡ pool_pins (shard_at opened i) = ap pool_pins is in
    omega (arith, one, first)
    in
    let sums = all_closed nodes opened ps (back ∙ sym are.count) (sym long ∙ sym are.count) each in
    omega (arith, sums, counted, thread_is pin_by ps, thread_is unpin_by ps)

pub pins_come_back : PinsComeBack
pins_come_back opened turns thread nodes opens pools are counted right closed =
    come_back opened turns thread nodes opens (λ i lt. pool_free (shard_at opened i).pool (pools i lt)) are counted right closed

-- ---- none

-- if frames have no pins together, none has one
none_in : (fs : List FrameView) → pins_in fs ≡ 0 → (j : ℕ) → (get_or fs j no_frame).fixes ≡ 0
none_in fs none j = elim (cases_lt j (length fs)) [
  | inl lt ↦ omega (arith, none, get_or-le-sum_by (λ f. f.fixes) fs j no_frame lt)
  | inr le ↦ ap (λ (f : FrameView). f.fixes) (get_or_past fs j no_frame le)
]

-- what close gives back
pub closes_unpinned : (turns : List ShardTurn) (thread : AttachedView)
    (results : List (Result NodeState Busy)) → AreOf turns thread.passes → thread.pins ≡ 0
    → AreClosed turns thread.passes results → ClosesUnpinned turns thread results
closes_unpinned turns thread results are no_pins closed opened opens none right counted =
    let back = closed_gives_back turns thread.passes results right closed in
    let nodes = back.0 in
    let all : AreClosed turns thread.passes (map (λ n. Ok n) nodes) = subst (λ (rs : List (Result NodeState Busy)). AreClosed turns thread.passes rs) back.1 closed in
    let free : (i : ℕ) → i < length opened → IsFree (view_of (shard_at opened i).pool) = λ i lt j page. none i lt j in
    let sums = come_back opened turns thread nodes opens free are counted right all in
    let before : all_pins opened ≡ 0 = no_sum pool_pins no_shard opened (λ i lt. no_sum (λ f. f.fixes) no_frame (view_of (shard_at opened i).pool).frames (λ j less. none i lt j)) in
    let after : NoneIsPinned nodes = λ i lt j.
    let one = get_or-le-sum_by pool_pins nodes i no_shard lt in
    let here : pool_pins (shard_at nodes i) ≡ 0 = omega (arith, one, sums, before, no_pins) in
    none_in (view_of (shard_at nodes i).pool).frames here j
    in
    (nodes, back.1, after)
