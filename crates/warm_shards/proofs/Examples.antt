-- Worked examples: which shard has a page, and the history of all shards.
use Rattle.std.proofs.Common.{◌≡◌, ℕ, List, [], ◌∷◌, true, false, refl, arith}
use Rattle.std.specs.Int.Count.{ones}
use Rattle.warm_stamps.specs.declared.PageId.{PageId}
use Rattle.warm_stamps.specs.declared.Stamp.{Stamp}
use Rattle.warm_stamps.specs.declared.Reference.{Reference}
use Rattle.warm_history.specs.Entry.{Entry}
use Rattle.warm_history.specs.PageHist.TheVariants.{Once}
use Rattle.warm_history.specs.ReferenceSets.{set_of_list}
use Rattle.warm_history.specs.Histories.{history, history_of_entries_at}
use Rattle.warm_pool.specs.State.{fresh_pool}
use Rattle.warm_gossip.specs.State.{NodeState}
use Rattle.warm_shards.specs.Shards.{whole}
use Rattle.warm_visits.specs.ShardNumbers.{IsShardCount, of_first_shards, of_shard, shard_of}

-- one shard, four, and 64; but not three, and not 128
one : IsShardCount 1
unfolding ones
one = (refl, omega arith)

four : IsShardCount 4
unfolding ones
four = (refl, omega arith)

most : IsShardCount 64
unfolding ones
most = (refl, omega arith)

not_three : IsShardCount 3 → ⊥
unfolding ones
not_three count = let e : false ≡ true = count.0 in absurd (cc)

not_128 : IsShardCount 128 → ⊥
not_128 count = absurd (omega arith)

-- page 70 of device 1 is in bucket 7: in shard 3 of 4, and in shard 0 of one
abbrev page : ℕ → PageId
page n = record { dev = 1; no = n }

in_four : shard_of 4 (page 70) ≡ 3
in_four = refl

in_one : shard_of 1 (page 70) ≡ 0
in_one = refl

abbrev at : ℕ → Stamp
at time = record { time = time; replica = 1 }

abbrev once : ℕ → ℕ → Entry
once n time = record { page = page n; hist = Once (at time) }

abbrev shard : ℕ → List Entry → NodeState
shard horizon es = record { id = 1; history = history_of_entries_at horizon es; pool = fresh_pool 1 1 [] }

-- Shard 0 of two has the odd pages of device 1, and shard 1 the even ones. The history of both has
-- the pages of both in order.
both_together : whole (shard 5 (once 1 7 ∷ once 3 6 ∷ []) ∷ shard 5 (once 2 9 ∷ []) ∷ [])
    ≡ history_of_entries_at 5 (once 1 7 ∷ once 2 9 ∷ once 3 6 ∷ [])
unfolding history
both_together = refl

-- of a batch, the first shard's part
abbrev reference : ℕ → Reference
reference n = record { page = page n; stamp = at 8 }

first_part : of_first_shards 2 1 (set_of_list (reference 2 ∷ reference 3 ∷ reference 5 ∷ []))
    ≡ set_of_list (reference 3 ∷ reference 5 ∷ [])
first_part = refl

second_part : of_shard 2 1 (set_of_list (reference 2 ∷ reference 3 ∷ reference 5 ∷ []))
    ≡ set_of_list (reference 2 ∷ [])
second_part = refl
