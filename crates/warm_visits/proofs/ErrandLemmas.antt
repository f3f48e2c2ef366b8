-- The errands from one shard on, and how many shards there are.
use Rattle.std.proofs.Common.{◌≡◌, ℕ, ◌<◌, count_ones, arith, suc, ◌+◌, ◌-◌, ◌≤◌, [], ◌∷◌, map, ap}
use Rattle.std.proofs.lemmas.Bool.{eqb-true}
use Rattle.std.proofs.lemmas.Nat.{ones_le_self}
use Rattle.warm_visits.specs.ShardNumbers.{IsShardCount}
use Rattle.std.specs.List.{range_with_len}
use Rattle.warm_visits.specs.Plans.{from_shard}
use Rattle.warm_visits.specs.Visits.{Ask, at_shard}

pub some_count : (count : ℕ) → IsShardCount count → 0 < count
some_count count valid =
    let one : count_ones count ≡ 1 = eqb-true (count_ones count) 1 valid.0 in
    omega (arith, ones_le_self count)

pub errand_here : (first count : ℕ) (ask : Ask) → first < count
    → from_shard first count ask ≡ at_shard first ask ∷ from_shard (first + 1) count ask
errand_here first count ask lt =
    let more : count - first ≡ suc (count - (first + 1)) = omega (arith, lt) in
    ap (λ n. map (λ i. at_shard i ask) (range_with_len first n)) more

pub errand_none : (first count : ℕ) (ask : Ask) → count ≤ first → from_shard first count ask ≡ []
errand_none first count ask le =
    let none : count - first ≡ 0 = omega (arith, le) in
    ap (λ n. map (λ i. at_shard i ask) (range_with_len first n)) none
