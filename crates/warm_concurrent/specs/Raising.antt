-- The horizon that shards have together, once each forgot all stamps before a time.
use Rattle.std.specs.Prelude.{◌≡◌, ℕ, List, [], ◌∷◌, length, max, slice_index_or}
use Rattle.warm_shards.specs.EachShard.{First}
use Rattle.warm_shard_machine.specs.declared.calls.ShardCall.TheVariants.{Raise}
use Rattle.warm_shard_machine.specs.declared.calls.ShardReply.TheVariants.{Kept}
use Rattle.warm_concurrent.specs.Attached.{ShardPass, no_pass}
use Rattle.warm_concurrent.specs.Clauses.{Got}

-- Each shard below k gave the item at its place, and no other turn was entered.
abbrev pub FirstGave : {T : Type 0} → (T → ℕ → ShardPass → ShardPass → Type 0) → T → List T → ℕ
    → List ShardPass → List ShardPass → Type 0
FirstGave So none given k old new = (length given ≡ k)
    × First no_pass (λ i. So (slice_index_or given i none) i) k old new

-- the latest of these times
abbrev pub latest_in : List ℕ → ℕ
latest_in [] = 0
latest_in (t ∷ ts) = max t (latest_in ts)

-- a shard forgot all stamps before this time, in one turn, and then had this horizon
abbrev pub RaisesTo : ℕ → ℕ → ℕ → ShardPass → ShardPass → Type 0
RaisesTo time horizon i old new = Got old.view (Raise time) (Kept horizon) new.view

-- the shards below k forgot all stamps before this time, and then had these horizons; no other turn
-- was entered
abbrev pub RaisesFirstTo : ℕ → List ℕ → ℕ → List ShardPass → List ShardPass → Type 0
RaisesFirstTo time horizons k old new = FirstGave (RaisesTo time) 0 horizons k old new

-- each shard forgot all stamps before this time, and this is the latest of the horizons that they
-- then had
abbrev pub RaisesAll : ℕ → ℕ → List ShardPass → List ShardPass → Type 0
RaisesAll time horizon old new = (horizons : List ℕ)
    × RaisesFirstTo time horizons (length old) old new × (horizon ≡ latest_in horizons)
