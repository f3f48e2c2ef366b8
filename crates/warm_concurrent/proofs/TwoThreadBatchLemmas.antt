-- Two threads that absorb a batch each, and one that closes: both batches are held, and no more.
use Rattle.std.proofs.Common.{◌≡◌, inl, inr, ℕ, zero, suc, ◌<◌, Bool, true, false, List, [], ◌∷◌, ◌++◌, length, map, Result, Ok, refl, sym, ap, subst, ◌∙◌, arith}
use Rattle.std.specs.Prelude.{◌==◌}
use Rattle.std.proofs.lemmas.Bool.{eq-eqb}
use mathlib.Core.Option.{some}
use lib.ListN.{get_elem?}
use Rattle.warm_history.specs.ReferenceSets.{ReferenceSet, set_of_list, ◌∪◌}
use Rattle.warm_turn.specs.declared.table.EndedPass.{EndedPass}
use Rattle.warm_machine.specs.declared.operation.Operation.{Operation}
use Rattle.warm_turn.specs.CallHistories.{EachIsBy, HoldsNumber, IsAmong, as_ended, calls_by}
use Rattle.warm_turn.specs.declared.fault.Busy.{Busy}
use Rattle.warm_gossip.specs.State.{NodeState}
use Rattle.warm_visits.specs.ShardNumbers.{IsShardCount}
use Rattle.warm_visits.specs.Visits.{VisitState, absorb_visit}
use Rattle.warm_shard_machine.specs.declared.calls.ShardCall.{ShardCall}
use Rattle.warm_shard_machine.specs.declared.calls.ShardReply.{ShardReply}
use Rattle.warm_concurrent.specs.Attached.{Known, ShardPass, ShardTurn, known_of, opened_id}
use Rattle.warm_concurrent.specs.Given.{AreLogs, HasMade, SameGiven, TwoThreadsAreHeld, gave, gave_call, gave_together, log_at}
use Rattle.warm_shard_machine.specs.Laws.{Log}
use Rattle.warm_concurrent.specs.Laws.{OverCalls}
use Rattle.warm_concurrent.specs.Opening.{AreClosed, AreFirst, AreHalved, PassesAreJoined, AreSplit}
use Rattle.warm_concurrent.specs.Rights.{Come, HasWholeRight, Moves, Threads, ThreadsMove}
use Rattle.warm_concurrent.specs.Visiting.{GoesByTurns, IsGoneThrough}
use Rattle.warm_concurrent.proofs.ClosedShardLemmas.{shared_is_of_given, turns_long}
use Rattle.warm_concurrent.proofs.LawLemmas.{over_calls}
use Rattle.warm_concurrent.proofs.CloseRightLemmas.{alone_has_all, calls_keep, closed_gives_back}
use Rattle.warm_concurrent.proofs.CallsGivenLemmas.{threads_give}
use Rattle.warm_concurrent.proofs.ReferenceSetLemmas.{Includes, includes_both, includes_left, includes_right, includes_self, includes_trans, includes_unions, same_history, same_includes}

-- a log gives what the calls of one number in it give
part_included : (n : ℕ) (log : Log) → Includes (gave log) (gave (calls_by n log))
part_included n [] = includes_self (set_of_list [])
part_included n (e ∷ es) = cases (e.by == n) refl (part_included n es)
  where
    cases : (b : Bool) → (e.by == n) ≡ b → Includes (gave es) (gave (calls_by n es))
        → Includes (gave (e ∷ es)) (gave (calls_by n (e ∷ es)))
    cases true is rest =
        rw is
        (includes_unions (gave_call e.call e.reply) (gave es) (gave_call e.call e.reply) (gave (calls_by n es)) (includes_self (gave_call e.call e.reply)) rest)
    cases false is rest =
        rw is (includes_right (gave_call e.call e.reply) (gave es) (gave (calls_by n es)) rest)

-- so it is of all shards together
all_included : (xs ys : List Log) → length ys ≡ length xs
    → ((i : ℕ) → i < length xs → Includes (gave (log_at xs i)) (gave (log_at ys i)))
    → Includes (gave_together xs) (gave_together ys)
all_included [] [] long each = includes_self (set_of_list [])
all_included [] (y ∷ ys) long each = absurd (omega (arith, long))
all_included (x ∷ xs) [] long each = absurd (omega (arith, long))
all_included (x ∷ xs) (y ∷ ys) long each =
    includes_unions (gave x) (gave_together xs) (gave y) (gave_together ys) (each 0 (omega arith))
    (all_included xs ys (omega (arith, long)) (λ i lt. each (suc i) (omega (arith, lt))))

-- an item after the others
at_seam : {A : Type 0} (xs ys : List A) (a : A) → get_elem? (xs ++ a ∷ ys) (length xs) ≡ some a
at_seam [] ys a = refl
at_seam (x ∷ xs) ys a = at_seam xs ys a

-- sets that include one another say the same
same_by_both : (S T : ReferenceSet) → Includes S T → Includes T S → SameGiven S T
same_by_both S T one other = record {
  horizon = omega (arith, one.horizon, other.horizon);
  there = other.there;
  back = one.there;
}

same_included : (S T : ReferenceSet) → SameGiven S T → Includes T S
same_included S T same = record { horizon = omega (arith, same.horizon); there = same.there }

includes_none : (T : ReferenceSet) → Includes T (set_of_list [])
includes_none T = record { horizon = omega arith; there = λ r here. absurd here }

-- what all logs give includes what one gives
one_in : (logs : List Log) (i : ℕ) → i < length logs
    → Includes (gave_together logs) (gave (log_at logs i))
one_in [] i lt = absurd (omega (arith, lt))
one_in (l ∷ ls) zero lt = includes_left (gave l) (gave_together ls) (gave l) (includes_self (gave l))
one_in (l ∷ ls) (suc i) lt =
    includes_right (gave l) (gave_together ls) (gave (log_at ls i)) (one_in ls i (omega (arith, lt)))

-- if a set includes what each log gives, it includes what all give
together_in : (T : ReferenceSet) (logs : List Log)
    → ((i : ℕ) → i < length logs → Includes T (gave (log_at logs i)))
    → Includes T (gave_together logs)
together_in T [] each = includes_none T
together_in T (l ∷ ls) each =
    includes_both T (gave l) (gave_together ls) (each 0 (omega arith)) (together_in T ls (λ i lt. each (suc i) (omega (arith, lt))))

-- the calls of the first operation's number begin with it
first_in : (e : Operation ShardCall ShardReply) (es : Log)
    → Includes (gave (calls_by e.by (e ∷ es))) (gave_call e.call e.reply)
first_in e es =
    let is : (e.by == e.by) ≡ true = eq-eqb e.by e.by refl in
    rw is (includes_left (gave_call e.call e.reply) (gave (calls_by e.by es)) (gave_call e.call e.reply) (includes_self (gave_call e.call e.reply)))

rest_in : (n : ℕ) (e : Operation ShardCall ShardReply) (es : Log)
    → Includes (gave (calls_by n (e ∷ es))) (gave (calls_by n es))
rest_in n e es = cases (e.by == n) refl
  where
    cases : (b : Bool) → (e.by == n) ≡ b → Includes (gave (calls_by n (e ∷ es))) (gave (calls_by n es))
    cases true is =
        rw is (includes_right (gave_call e.call e.reply) (gave (calls_by n es)) (gave (calls_by n es)) (includes_self (gave (calls_by n es))))
    cases false is = rw is (includes_self (gave (calls_by n es)))

-- if a set includes what the calls of each of these numbers give, and each operation has one of
-- these numbers, it includes what all operations give
all_in : (P : ℕ → Type 0) (T : ReferenceSet) (log es : Log)
    → ((n : ℕ) → P n → Includes T (gave (calls_by n log)))
    → ((n : ℕ) → Includes (gave (calls_by n log)) (gave (calls_by n es)))
    → EachIsBy P es → Includes T (gave es)
all_in P T log [] each more held = includes_none T
all_in P T log (e ∷ es) each more held =
    includes_both T (gave_call e.call e.reply) (gave es)
    (includes_trans T (gave (calls_by e.by log)) (gave_call e.call e.reply) (each e.by held.0)
    (includes_trans (gave (calls_by e.by log)) (gave (calls_by e.by (e ∷ es))) (gave_call e.call e.reply) (more e.by) (first_in e es)))
    (all_in P T log es each (λ n. includes_trans (gave (calls_by n log)) (gave (calls_by n (e ∷ es))) (gave (calls_by n es)) (more n) (rest_in n e es)) held.1)

-- a call leaves those that were ended into a pass, and there are as many passes
record KeepsEnded (old new : List ShardPass) : Type 0 where
  count : length new ≡ length old
  each : (i : ℕ) → (known_of new i).ended ≡ (known_of old i).ended

ended_kept : OverCalls KeepsEnded
ended_kept =
    over_calls (λ p q. q.view.ended ≡ p.view.ended) (λ p. refl) (λ p q r one other. other ∙ one) (λ p q c r got. got.ended) (λ p q is. ap (λ (v : Known). v.ended) is) KeepsEnded
    (λ old new so. record { count = so.0; each = so.1 })

-- one of these moves, and the others have what they had
pub moves_there : (before these left after : Threads) → Moves these left
    → ThreadsMove (before ++ these ++ after) (before ++ left ++ after)
moves_there before these left after moves = record {
  before = before;
  after = after;
  these = these;
  left = left;
  old_are = refl;
  new_are = refl;
  moves = moves;
}

-- two threads, of which one is left
two_come : (first here there mine yours all : List ShardPass) (v w x y : VisitState)
    → AreHalved first here → AreSplit first there → GoesByTurns v here w mine
    → GoesByTurns x there y yours → PassesAreJoined mine yours all
    → (between : List Threads) × Come (first ∷ []) between (all ∷ [])
two_come first here there mine yours all v w x y halved split goes also joined =
    let apart = moves_there [] (first ∷ []) (here ∷ there ∷ []) [] (halved, split) in
    let ours = moves_there [] (here ∷ []) (mine ∷ []) (there ∷ []) (calls_keep.visited here mine v w goes) in
    let theirs = moves_there (mine ∷ []) (there ∷ []) (yours ∷ []) [] (calls_keep.visited there yours x y also) in
    let again = moves_there [] (mine ∷ yours ∷ []) (all ∷ []) [] joined in
    ((here ∷ there ∷ []) ∷ (mine ∷ there ∷ []) ∷ (mine ∷ yours ∷ []) ∷ (all ∷ []) ∷ [], (apart, (ours, (theirs, (again, refl)))))

module _ (turns : List ShardTurn) (first here there mine yours all : List ShardPass)
    (opens : AreFirst turns first) (halved : AreHalved first here) (split : AreSplit first there)
    (joined : PassesAreJoined mine yours all) (nodes : List NodeState) (logs : List Log)
    (are : AreLogs turns all nodes logs) where
  -- the calls of a pass that had made none
  none_here : (i : ℕ) → i < length turns → (known_of here i).mine ≡ []
  none_here i lt =
      ap (λ (p : ShardPass). p.view.mine) (halved.each i (omega (arith, lt, opens.count)))
      ∙ ap (λ (v : Known). v.mine) (opens.views i lt)

  none_there : (i : ℕ) → i < length turns → (known_of there i).mine ≡ []
  none_there i lt =
      let is = split.each i (omega (arith, lt, opens.count)) in
      ap (λ (v : Known). v.mine) is.1

  -- the calls of the thread that closes
  mine_calls : (more : List Log) (i : ℕ) → HasMade here mine more → i < length turns
      → length here ≡ length turns → length mine ≡ length turns
      → calls_by (known_of all i).number (log_at logs i) ≡ log_at more i
  mine_calls more i made lt long also =
      let log = are.each i lt in
      let is : known_of all i ≡ _ = (joined.each i (omega (arith, lt, also))).1 in
      log.own ∙ ap (λ (v : Known). v.mine) is ∙ made.each i (omega (arith, lt, long)) ∙ ap (λ (l : Log). l ++ log_at more i) (none_here i lt)

  -- and those of the thread that was detached into it
  yours_calls : (more : List Log) (i : ℕ) → HasMade there yours more → i < length turns
      → length there ≡ length turns → length mine ≡ length turns
      → calls_by (known_of yours i).number (log_at logs i) ≡ log_at more i
  yours_calls more i made lt long also =
      let log = are.each i lt in
      let v = known_of mine i in
      let u = known_of yours i in
      let is = (joined.each i (omega (arith, lt, also))).1 in
      let ended : (known_of all i).ended ≡ v.ended ++ as_ended u ∷ u.ended = ap (λ (w : Known). w.ended) is in
      let at : get_elem? (known_of all i).ended (length v.ended) ≡ some (as_ended u) = ap (λ (es : List (EndedPass ShardCall ShardReply)). get_elem? es (length v.ended)) ended ∙ at_seam v.ended u.ended (as_ended u) in
      log.others (length v.ended) (as_ended u) at ∙ made.each i (omega (arith, lt, long)) ∙ ap (λ (l : Log). l ++ log_at more i) (none_there i lt)

  mine_in : (more : List Log) (i : ℕ) → HasMade here mine more → i < length turns
      → length here ≡ length turns → length mine ≡ length turns
      → Includes (gave (log_at logs i)) (gave (log_at more i))
  mine_in more i made lt long also =
      let n = (known_of all i).number in
      subst (λ (l : Log). Includes (gave (log_at logs i)) (gave l)) (mine_calls more i made lt long also) (part_included n (log_at logs i))

  yours_in : (more : List Log) (i : ℕ) → HasMade there yours more → i < length turns
      → length there ≡ length turns → length mine ≡ length turns
      → Includes (gave (log_at logs i)) (gave (log_at more i))
  yours_in more i made lt long also =
      let n = (known_of yours i).number in
      subst (λ (l : Log). Includes (gave (log_at logs i)) (gave l)) (yours_calls more i made lt long also) (part_included n (log_at logs i))

  -- what each thread's pass holds when it is ended, or closes
  module _ (v w x y : VisitState) (goes : GoesByTurns v here w mine)
      (also : GoesByTurns x there y yours) (here_long : length here ≡ length turns)
      (there_long : length there ≡ length turns) (mine_long : length mine ≡ length turns)
      (whole_right : HasWholeRight (length turns) all) where
    mine_ended : (i : ℕ) → i < length turns → (known_of mine i).ended ≡ []
    mine_ended i lt =
        let was = halved.each i (omega (arith, lt, opens.count)) in
        (ended_kept.visited here mine v w goes).each i ∙ ap (λ (p : ShardPass). p.view.ended) was ∙ ap (λ (v : Known). v.ended) (opens.views i lt)

    yours_ended : (i : ℕ) → i < length turns → (known_of yours i).ended ≡ []
    yours_ended i lt =
        let is = split.each i (omega (arith, lt, opens.count)) in
        (ended_kept.visited there yours x y also).each i ∙ ap (λ (v : Known). v.ended) is.1

    -- the closing pass holds the other alone
    all_ended : (i : ℕ) → i < length turns
        → (known_of all i).ended ≡ as_ended (known_of yours i) ∷ []
    all_ended i lt =
        let is = (joined.each i (omega (arith, lt, mine_long))).1 in
        let v = mine_ended i lt in
        let u = yours_ended i lt in
        ap (λ (w : Known). w.ended) is ∙ (λ j. v j ++ as_ended (known_of yours i) ∷ u j)

    -- so a log gives what a set has that includes what both threads gave
    nothing_else : (T : ReferenceSet) (left right : List Log) (i : ℕ) → HasMade here mine left
        → HasMade there yours right → i < length turns → Includes T (gave (log_at left i))
        → Includes T (gave (log_at right i)) → Includes T (gave (log_at logs i))
    nothing_else T left right i made theirs lt ours others =
        let v = known_of all i in
        let u = known_of yours i in
        let log = log_at logs i in
        let own : Includes T (gave (calls_by v.number log)) = subst (λ (l : Log). Includes T (gave l)) (sym (mine_calls left i made lt here_long mine_long)) ours in
        let other : Includes T (gave (calls_by u.number log)) = subst (λ (l : Log). Includes T (gave l)) (sym (yours_calls right i theirs lt there_long mine_long)) others in
        let each : (n : ℕ) → HoldsNumber v n → Includes T (gave (calls_by n log)) = λ n holds. elim holds [
          | inl mine_is ↦ subst (λ (k : ℕ). Includes T (gave (calls_by k log))) mine_is own
          | inr among ↦
              let here_is : IsAmong n (as_ended u ∷ []) = subst (λ (es : List (EndedPass ShardCall ShardReply)). IsAmong n es) (all_ended i lt) among in
              elim here_is [
                | inl theirs_is ↦ subst (λ (k : ℕ). Includes T (gave (calls_by k log))) theirs_is other
                | inr none ↦ absurd none
              ]
        ] in
        all_in (HoldsNumber v) T log log each (λ n. includes_self (gave (calls_by n log))) ((are.each i lt).all (whole_right i lt))

pub two_threads_are_held : TwoThreadsAreHeld
two_threads_are_held S opened turns first here there mine yours all one two results valid opens stands start halved split absorbed also joined closes =
    let n = length turns in
    let v = absorb_visit (opened_id turns) n one in
    let x = absorb_visit (opened_id turns) n two in
    let w = absorbed.0 in
    let y = also.0 in
    let come = two_come first here there mine yours all v w x y halved split absorbed.1.goes also.1.goes joined in
    let all_right : HasWholeRight (length turns) all = alone_has_all turns first all come.0 start come.1 in
    let back = closed_gives_back turns all results all_right closes in
    let nodes = back.0 in
    let closed : AreClosed turns all (map (λ n. Ok n) nodes) = subst (λ (rs : List (Result NodeState Busy)). AreClosed turns all rs) back.1 closes in
    let long : length turns ≡ length opened = turns_long opened turns opens in
    let here_long : length here ≡ length turns = halved.count ∙ start.count in
    let there_long : length there ≡ length turns = split.count ∙ start.count in
    let mine_long : length mine ≡ length turns = (ended_kept.visited here mine v w absorbed.1.goes).count ∙ here_long in
    let count : IsShardCount (length turns) = subst IsShardCount (sym long) valid.count in
    let left = (threads_give here mine (subst IsShardCount (sym here_long) count)).absorbed (opened_id turns) one (subst (λ (k : ℕ). IsGoneThrough (absorb_visit (opened_id turns) k one) here mine) (sym here_long) absorbed) in
    let right = (threads_give there yours (subst IsShardCount (sym there_long) count)).absorbed (opened_id turns) two (subst (λ (k : ℕ). IsGoneThrough (absorb_visit (opened_id turns) k two) there yours) (sym there_long) also) in
    let closing = shared_is_of_given S opened turns all nodes valid opens stands closed in
    let logs = closing.0 in
    let G = gave_together logs in
    let ones : Includes G (set_of_list one) =
    includes_trans G (gave_together left.0) (set_of_list one)
    (all_included logs left.0 (left.1.count ∙ here_long ∙ sym closing.1.count) (λ i lt. mine_in turns first here there mine yours all start halved split joined nodes logs closing.1 left.0 i left.1 (omega (arith, lt, closing.1.count)) here_long mine_long))
    (same_includes (gave_together left.0) (set_of_list one) left.2) in
    let twos : Includes G (set_of_list two) =
    includes_trans G (gave_together right.0) (set_of_list two)
    (all_included logs right.0 (right.1.count ∙ there_long ∙ sym closing.1.count) (λ i lt. yours_in turns first here there mine yours all start halved split joined nodes logs closing.1 right.0 i right.1 (omega (arith, lt, closing.1.count)) there_long mine_long))
    (same_includes (gave_together right.0) (set_of_list two) right.2) in
    let U = set_of_list one ∪ set_of_list two in
    let has_both : Includes G U = includes_both G (set_of_list one) (set_of_list two) ones twos in
    let ours : Includes U (gave_together left.0) = includes_left (set_of_list one) (set_of_list two) (gave_together left.0) (same_included (gave_together left.0) (set_of_list one) left.2) in
    let theirs : Includes U (gave_together right.0) = includes_right (set_of_list one) (set_of_list two) (gave_together right.0) (same_included (gave_together right.0) (set_of_list two) right.2) in
    let no_more : Includes U G = together_in U logs (λ i lt.
    let less : i < length turns = omega (arith, lt, closing.1.count) in
    nothing_else turns first here there mine yours all start halved split joined nodes logs closing.1 v w x y absorbed.1.goes also.1.goes here_long there_long mine_long all_right U left.0 right.0 i left.1 right.1 less
    (includes_trans U (gave_together left.0) (gave (log_at left.0 i)) ours (one_in left.0 i (omega (arith, less, left.1.count, here_long))))
    (includes_trans U (gave_together right.0) (gave (log_at right.0 i)) theirs (one_in right.0 i (omega (arith, less, right.1.count, there_long))))) in
    (nodes, back.1, closing.2 ∙ same_history S G U (same_by_both G U has_both no_more))
