-- The right to close: what calls leave of it, and what all threads have together.
use Rattle.std.specs.Prelude.{slice_index_or}
use Rattle.std.proofs.Common.{◌≡◌, ℕ, zero, suc, ◌*◌, ◌<◌, List, [], ◌∷◌, ◌++◌, length, Result, Ok, Err, refl, sym, ap, subst, ◌∙◌, arith}
use Rattle.std.proofs.Math.Nat.{mul-pos}
use Rattle.warm_turn.specs.declared.fault.Busy.{Busy}
use Rattle.warm_turn.specs.declared.table.Share.{Share}
use Rattle.warm_turn.specs.CallHistories.{as_spent}
use Rattle.warm_turn.specs.Shares.{AsLarge, both, half, no_share, whole_share}
use Rattle.warm_turn.proofs.ShareLemmas.{AsLarge-both, AsLarge-self, AsLarge-trans, both_assoc}
use Rattle.warm_gossip.specs.State.{NodeState}
use Rattle.warm_shard_machine.specs.declared.calls.ShardCall.{ShardCall}
use Rattle.warm_shard_machine.specs.declared.calls.ShardReply.{ShardReply}
use Rattle.warm_concurrent.specs.Attached.{Known, ShardPass, ShardTurn, known_of, shard_pass, shard_turn}
use Rattle.warm_concurrent.specs.Clauses.{Got}
use Rattle.warm_concurrent.specs.Laws.{OverCalls}
use Rattle.warm_concurrent.specs.Opening.{AreClosed, AreFirst, ClosesShard}
use Rattle.warm_concurrent.specs.Rights.{AreGivenBack, Come, HasWholeRight, KeepsRight, Moves, NodesComeBack, Threads, ThreadsMove}
use Rattle.warm_concurrent.proofs.LawLemmas.{over_calls}

-- ---- calls

abbrev SameShare : ShardPass → ShardPass → Type 0
SameShare p q = q.view.share ≡ p.view.share

same_self : (p : ShardPass) → SameShare p p
same_self p = refl

same_then : (p q r : ShardPass) → SameShare p q → SameShare q r → SameShare p r
same_then p q r one other = other ∙ one

same_got : (p q : ShardPass) (c : ShardCall) (r : ShardReply) → Got p.view c r q.view → SameShare p q
same_got p q c r got = got.share

same_spent : (p q : ShardPass) → q.view ≡ as_spent p.view → SameShare p q
same_spent p q is = ap (λ (v : Known). v.share) is

each_keeps : (old new : List ShardPass)
    → ((length new ≡ length old) × ((i : ℕ) → SameShare (shard_pass old i) (shard_pass new i)))
    → KeepsRight old new
each_keeps old new so = record { count = so.0; shares = λ i lt. so.1 i }

pub calls_keep : OverCalls KeepsRight
calls_keep = over_calls SameShare same_self same_then same_got same_spent KeepsRight each_keeps

-- ---- all threads together

-- these shares, put together
abbrev together : ℕ → Threads → Share
together i [] = no_share
together i (p ∷ ps) = both (known_of p i).share (together i ps)

abbrev AreLong : ℕ → Threads → Type 0
AreLong n [] = Unit {0}
AreLong n (p ∷ ps) = (length p ≡ n) × AreLong n ps

left_some : (a b : ℕ) → 0 < a * b → 0 < a
left_some zero b some = absurd (omega (arith, some))
left_some (suc a) b some = omega arith

right_some : (a b : ℕ) → 0 < a * b → 0 < b
right_some a zero some = absurd (omega (arith, some))
right_some a (suc b) some = omega arith

-- a share that is as large as it was, of a number that is not 0
record Stays (s t : Share) : Type 0 where
  some : 0 < s.whole → 0 < t.whole
  large : AsLarge t s

stays_same : (s t : Share) → t ≡ s → Stays s t
stays_same s t is =
    let self : Stays s s = record { some = λ some. some; large = AsLarge-self s } in
    subst (λ (u : Share). Stays s u) (sym is) self

-- beside another share
stays_beside : (s t u : Share) → Stays t u → Stays (both s t) (both s u)
stays_beside s t u stays = record {
  some = λ some. mul-pos (left_some s.whole t.whole some) (stays.some (right_some s.whole t.whole some));
  large = AsLarge-both s s u t (AsLarge-self s) stays.large;
}

-- a half that another thread got
stays_halved : (s t : Share) → Stays (both s t) (both (half s) (both (half s) t))
stays_halved s t = record {
  some = λ some.
      let one : 0 < s.whole = left_some s.whole t.whole some in
      let two : 0 < 2 * s.whole = omega (arith, one) in
      mul-pos two (mul-pos two (right_some s.whole t.whole some));
  large = omega arith;
}

-- a share that was given to another thread
stays_joined : (s u t : Share) → Stays (both s (both u t)) (both (both s u) t)
stays_joined s u t = record {
  some = λ some.
      let rest : 0 < u.whole * t.whole = right_some s.whole (u.whole * t.whole) some in
      mul-pos (mul-pos (left_some s.whole (u.whole * t.whole) some) (left_some u.whole t.whole rest)) (right_some u.whole t.whole rest);
  large = both_assoc s u t;
}

stays_turned : (s u t : Share) → Stays (both s (both u t)) (both u (both s t))
stays_turned s u t = record {
  some = λ some.
      let rest : 0 < u.whole * t.whole = right_some s.whole (u.whole * t.whole) some in
      mul-pos (left_some u.whole t.whole rest) (mul-pos (left_some s.whole (u.whole * t.whole) some) (right_some u.whole t.whole rest));
  large = omega arith;
}

-- each thread still has a pass of each shard, and together they have as much of each
record StayAll (n : ℕ) (old new : Threads) : Type 0 where
  long : AreLong n old → AreLong n new
  each : AreLong n old → (i : ℕ) → i < n → Stays (together i old) (together i new)

moved : (n : ℕ) (these left after : Threads) → Moves these left
    → StayAll n (these ++ after) (left ++ after)
moved n (p ∷ []) (q ∷ []) after kept = record {
  long = λ long. (kept.count ∙ long.0, long.1);
  each = λ long i lt.
      let T = together i after in
      stays_same (both (known_of p i).share T) (both (known_of q i).share T) (ap (λ (s : Share). both s T) (kept.shares i (omega (arith, lt, long.0))));
}
moved n (p ∷ []) (q ∷ more ∷ []) after (halved, split) = record {
  long = λ long. (halved.count ∙ long.0, (split.count ∙ long.0, long.1));
  each = λ long i lt.
      let less : i < length p = omega (arith, lt, long.0) in
      let s = (known_of p i).share in
      let T = together i after in
      let here : (known_of q i).share ≡ half s = ap (λ (x : ShardPass). x.view.share) (halved.each i less) in
      let there : (known_of more i).share ≡ half s = ap (λ (v : Known). v.share) (split.each i less).1 in
      subst (λ (a : Share). Stays (both s T) (both a (both (known_of more i).share T))) (sym here)
      (subst (λ (a : Share). Stays (both s T) (both (half s) (both a T))) (sym there) (stays_halved s T));
}
moved n (p ∷ other ∷ []) (q ∷ []) after joined = record {
  long = λ long. (joined.count ∙ long.0, long.1.1);
  each = λ long i lt.
      let is = (joined.each i (omega (arith, lt, long.0))).1 in
      let s = (known_of p i).share in
      let u = (known_of other i).share in
      let T = together i after in
      let share : (known_of q i).share ≡ both s u = ap (λ (w : Known). w.share) is in
      subst (λ (a : Share). Stays (both s (both u T)) (both a T)) (sym share) (stays_joined s u T);
}
moved n (p ∷ other ∷ []) (q ∷ r ∷ []) after (is, also) = record {
  long = λ long. (ap length is ∙ long.1.0, (ap length also ∙ long.0, long.1.1));
  each = λ long i lt.
      let s = (known_of p i).share in
      let u = (known_of other i).share in
      let T = together i after in
      let one : (known_of q i).share ≡ u = ap (λ (ps : List ShardPass). (known_of ps i).share) is in
      let two : (known_of r i).share ≡ s = ap (λ (ps : List ShardPass). (known_of ps i).share) also in
      subst (λ (a : Share). Stays (both s (both u T)) (both a (both (known_of r i).share T))) (sym one)
      (subst (λ (a : Share). Stays (both s (both u T)) (both u (both a T))) (sym two) (stays_turned s u T));
}
moved n these left after none = absurd none

-- the same if other threads stand before them
moved_behind : (n : ℕ) (before these left after : Threads) → Moves these left
    → StayAll n (before ++ these ++ after) (before ++ left ++ after)
moved_behind n [] these left after moves = moved n these left after moves
moved_behind n (b ∷ bs) these left after moves =
    let rest = moved_behind n bs these left after moves in
    record {
      long = λ long. (long.0, rest.long long.1);
      each = λ long i lt. stays_beside (known_of b i).share (together i (bs ++ these ++ after)) (together i (bs ++ left ++ after)) (rest.each long.1 i lt);
    }

step_stays : (n : ℕ) (old new : Threads) → ThreadsMove old new → StayAll n old new
step_stays n old new move =
    subst (λ (ts : Threads). StayAll n ts new) (sym move.old_are)
    (subst (λ (ts : Threads). StayAll n (move.before ++ move.these ++ move.after) ts) (sym move.new_are) (moved_behind n move.before move.these move.left move.after move.moves))

-- the whole right stays whole
come_stays : (n i : ℕ) (old : Threads) (between : List Threads) (new : Threads) → AreLong n old
    → i < n → 0 < (together i old).whole → AsLarge (together i old) whole_share
    → Come old between new → AsLarge (together i new) whole_share
come_stays n i old [] new long lt some large come = subst (λ (ts : Threads). AsLarge (together i ts) whole_share) come large
come_stays n i old (next ∷ more) new long lt some large (move, come) =
    let all = step_stays n old next move in
    let one = all.each long i lt in
    come_stays n i next more new (all.long long) lt (one.some some)
    (AsLarge-trans (together i next) (together i old) whole_share some one.large large) come

pub alone_has_all : (turns : List ShardTurn) (first last : List ShardPass) (between : List Threads)
    → AreFirst turns first → Come (first ∷ []) between (last ∷ [])
    → HasWholeRight (length turns) last
alone_has_all turns first last between start come i lt =
    let n = length turns in
    let f = (known_of first i).share in
    let l = (known_of last i).share in
    let is : f ≡ whole_share = ap (λ (v : Known). v.share) (start.views i lt) in
    let some : 0 < (both f no_share).whole = subst (λ (s : Share). 0 < (both s no_share).whole) (sym is) (omega arith) in
    let large : AsLarge (both f no_share) whole_share = subst (λ (s : Share). AsLarge (both s no_share) whole_share) (sym is) refl in
    let end : AsLarge (both l no_share) whole_share = come_stays n i (first ∷ []) between (last ∷ []) (start.count, tt) lt some large come in
    omega (arith, end)

-- ---- what a close gives back

all_ok : (results : List (Result NodeState Busy))
    → ((i : ℕ) (d : Result NodeState Busy) (busy : Busy) → i < length results
    → slice_index_or results i d ≡ Err busy → ⊥)
    → AreGivenBack results
all_ok [] none = ([], refl)
all_ok (Err busy ∷ rs) none = absurd (none 0 (Err busy) busy (omega arith) refl)
all_ok (Ok node ∷ rs) none =
    let rest = all_ok rs (λ i d busy lt is. none (suc i) d busy (omega (arith, lt)) is) in
    (node ∷ rest.0, ap (λ (qs : List (Result NodeState Busy)). Ok node ∷ qs) rest.1)

pub closed_gives_back : (turns : List ShardTurn) (passes : List ShardPass)
    (results : List (Result NodeState Busy)) → HasWholeRight (length turns) passes
    → AreClosed turns passes results → AreGivenBack results
closed_gives_back turns passes results right closed =
    all_ok results (λ i d busy lt is.
    let less : i < length turns = omega (arith, lt, closed.count) in
    (subst (λ (r : Result NodeState Busy). ClosesShard (shard_turn turns i) (known_of passes i) r) is (closed.each i d less)).2 (right i less))

pub nodes_come_back : NodesComeBack
nodes_come_back = record {
  calls = calls_keep;
  alone = alone_has_all;
  closed = closed_gives_back;
}
