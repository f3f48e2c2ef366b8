-- The pages in a pool, looked up among those that its devices have.
use Rattle.std.proofs.Common.{◌≡◌, ℕ, ◌<◌, List, [], ◌∷◌, ◌++◌, map, length, get_or, Some, sym, ap, ◌∙◌, arith}
use Rattle.std.proofs.Math.ListN.{get_or-map as mapped}
use Rattle.std.proofs.lemmas.List.{length-map}
use Rattle.std.specs.List.{AllByRecursion}
use Rattle.warm_devices.specs.Device.{DeviceState}
use Rattle.warm_frame_table.specs.Frames.{nth_frame}
use Rattle.warm_pool.specs.State.{IsPool, PoolState, no_device, nth_device}
use Rattle.warm_pool.specs.View.{FrameView, PoolView, frame_view, view_of}
use Rattle.warm_gossip.proofs.BringsLemmas.{is_resident}
use Rattle.warm_shards.proofs.Places.{read_at}
use Rattle.warm_shards.specs.ShardsOfNodes.{AreOwnOf}
use Rattle.warm_shards.specs.Shards.{HasPagesOf}

-- if the resident pages of each device are of the shard, all are
pub all_own : (count i : ℕ) (s : PoolState) → IsPool s
    → ((k : ℕ) → k < length s.devices → AreOwnOf count i (view_of s) k (nth_device s.devices k).pages)
    → HasPagesOf count i (view_of s)
all_own count i s pool own k p at =
    let seen : (nth_frame s.frames k).page ≡ Some p = ap (λ (f : FrameView). f.page) (sym (mapped frame_view s.frames k _)) ∙ at in
    own p.dev (pool.has_device k p seen) p.no (pool.has_page k p seen) (is_resident (view_of s) k p at)

pub each_own : (count i : ℕ) (v : PoolView) (dev pages : ℕ) → HasPagesOf count i v
    → AreOwnOf count i v dev pages
each_own count i v dev pages has number lt resident =
    has resident.frame (record { dev = dev; no = number }) resident.holds

-- a device, as it is read
pub device_read : {B : Type 0} (shown : B → DeviceState) (ds : List B) (s : PoolState) (k : ℕ)
    (d x : B) → map shown ds ≡ s.devices → k < length ds → x ≡ get_or ds k d
    → shown x ≡ nth_device s.devices k
device_read shown ds s k d x is lt at =
    ap shown at
    ∙ read_at (map shown ds) k (shown (get_or ds k d)) (shown d) no_device (omega (arith, lt, length-map ds shown)) (sym (mapped shown ds k d))
    ∙ ap (λ xs. get_or xs k no_device) is

-- what is true of each item is true of one between others
pub one_between : {A : Type 0} (P : A → Type 0) (xs : List A) (x : A) (ys : List A)
    → AllByRecursion P (xs ++ x ∷ ys) → P x
one_between P [] x ys all = all.0
one_between P (z ∷ zs) x ys all = one_between P zs x ys all.1
