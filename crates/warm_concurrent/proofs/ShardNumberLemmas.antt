-- Shards that are numbered.
use Rattle.std.proofs.Common.{◌≡◌, ℕ, zero, suc, ◌+◌, ◌<◌, List, [], ◌∷◌, ◌++◌, length, refl, sym, ap, subst, ◌∙◌, arith}
use Rattle.std.proofs.lemmas.List.{length-map}
use Rattle.warm_gossip.specs.State.{NodeState}
use Rattle.warm_shards.specs.Shards.{AreShards, shard_at}
use Rattle.warm_visits.specs.ShardNumbers.{IsShardCount}
use Rattle.warm_concurrent.specs.Attached.{AreTurns, OpenedAs, ShardTurn, shard_turn}
use Rattle.warm_concurrent.specs.Opening.{AreFirst, AreNumbered, openings, shards_from, shards_over, state_at}
use Rattle.warm_shard_machine.specs.ShardSteps.{ShardState, shard_over}

-- one node more
pub from_more : (count i : ℕ) (ns : List NodeState) (n : NodeState)
    → shards_from count i (ns ++ n ∷ []) ≡ shards_from count i ns ++ shard_over count (i + length ns) n ∷ []
from_more count i [] n = ap (λ k. shard_over count k n ∷ []) (omega arith)
from_more count i (m ∷ ns) n =
    ap (λ l. shard_over count i m ∷ l) (from_more count (suc i) ns n ∙ ap (λ k. shards_from count (suc i) ns ++ shard_over count k n ∷ []) (omega arith))

pub from_long : (count i : ℕ) (ns : List NodeState) → length (shards_from count i ns) ≡ length ns
from_long count i [] = refl
from_long count i (n ∷ ns) = omega (arith, from_long count (suc i) ns)

from_count : (count j : ℕ) (ns : List NodeState) (i : ℕ) → i < length ns
    → (state_at (shards_from count j ns) i).count ≡ count
from_count count j [] i lt = absurd (omega arith)
from_count count j (n ∷ ns) zero lt = refl
from_count count j (n ∷ ns) (suc i) lt = from_count count (suc j) ns i (omega arith)

from_number : (count j : ℕ) (ns : List NodeState) (i : ℕ) → i < length ns
    → (state_at (shards_from count j ns) i).number ≡ j + i
from_number count j [] i lt = absurd (omega arith)
from_number count j (n ∷ ns) zero lt = omega arith
from_number count j (n ∷ ns) (suc i) lt = from_number count (suc j) ns i (omega arith) ∙ omega arith

from_id : (count j id : ℕ) (ns : List NodeState)
    → ((i : ℕ) → i < length ns → (shard_at ns i).id ≡ id) → (i : ℕ) → i < length ns
    → (state_at (shards_from count j ns) i).node.id ≡ id
from_id count j id [] each i lt = absurd (omega arith)
from_id count j id (n ∷ ns) each zero lt = each 0 lt
from_id count j id (n ∷ ns) each (suc i) lt =
    from_id count (suc j) id ns (λ k less. each (suc k) (omega (arith, less))) i (omega arith)

pub numbered : (ns : List NodeState) → AreShards ns
    → AreNumbered (shard_at ns 0).id (shards_over ns)
numbered ns are =
    let long = from_long (length ns) 0 ns in
    record {
      count = rw long are.count;
      counts = λ i lt. from_count (length ns) 0 ns i (omega (arith, long)) ∙ sym long;
      numbers = λ i lt. from_number (length ns) 0 ns i (omega (arith, long)) ∙ omega arith;
      ids = λ i lt. from_id (length ns) 0 (shard_at ns 0).id ns (λ k less. (are.each k less).id) i (omega (arith, long));
    }

-- one shard more
pub next_shard : (count k : ℕ) (ss : List ShardState) (s : ShardState) (ns : List NodeState)
    (n : NodeState) → ss ≡ shards_from count 0 ns → s ≡ shard_over count k n → k ≡ length ns
    → ss ++ s ∷ [] ≡ shards_from count 0 (ns ++ n ∷ [])
next_shard count k ss s ns n same is number =
    let place : k ≡ 0 + length ns = omega (arith, number) in
    ap (λ (l : List ShardState). l ++ s ∷ []) same
    ∙ ap (λ (x : ShardState). shards_from count 0 ns ++ x ∷ []) is
    ∙ ap (λ j. shards_from count 0 ns ++ shard_over count j n ∷ []) place
    ∙ sym (from_more count 0 ns n)

-- turns that opened so
pub opening_at : (ts : List ShardTurn) (i : ℕ) → state_at (openings ts) i ≡ (shard_turn ts i).opening
opening_at [] i = refl
opening_at (t ∷ ts) zero = refl
opening_at (t ∷ ts) (suc i) = opening_at ts i

pub turns_numbered : (id : ℕ) (ts : List ShardTurn) → AreNumbered id (openings ts) → AreTurns ts
turns_numbered id ts are =
    let long : length (openings ts) ≡ length ts = length-map ts (λ t. t.opening) in
    record {
      count = subst IsShardCount long are.count;
      counts = λ i lt. ap (λ (v : ShardState). v.count) (sym (opening_at ts i)) ∙ are.counts i (omega (arith, long)) ∙ long;
      numbers = λ i lt. ap (λ (v : ShardState). v.number) (sym (opening_at ts i)) ∙ are.numbers i (omega (arith, long));
    }

pub turns_opened : (id : ℕ) (ts : List ShardTurn) → AreNumbered id (openings ts) → OpenedAs id ts
turns_opened id ts are =
    let long : length (openings ts) ≡ length ts = length-map ts (λ t. t.opening) in
    record {
      each = λ i lt. ap (λ (v : ShardState). v.node.id) (sym (opening_at ts i)) ∙ are.ids i (omega (arith, long));
    }

pub none_first : AreFirst [] []
none_first = record { count = refl; tables = λ i lt. absurd (omega arith); views = λ i lt. absurd (omega arith) }
