-- Which lines are requests to a worker.
use Rattle.std.proofs.Common.{◌≡◌, ℕ, List, Option, Some, None, Err, refl}
use Rattle.std.specs.Prelude.{option_map}
use Rattle.warm_pool.specs.declared.slot.Slot.{Slot}
use Rattle.warm_world.specs.declared.event.Event.TheVariants.{Put}
use Rattle.warm_player.specs.declared.parse.Line.TheVariants as meant
use Rattle.warm_player.specs.Workers.{worker_request_in}

-- a put is not a request to a worker, whether its bytes are spelled or not
pub put_is_for_no_worker : (replica : ℕ) (slot : Slot) (at : ℕ) (bytes : Option (List ℕ))
    → Err (record {}) ≡ worker_request_in
    (option_map meant.Act (option_map (Put replica slot at) bytes))
put_is_for_no_worker replica slot at None = refl
put_is_for_no_worker replica slot at (Some bytes) = refl
