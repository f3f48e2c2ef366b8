-- The possible output of a schedule: each line is answered from the state that the lines before it
-- left, and then comes the end.
use Rattle.std.specs.Prelude.{◌≡◌, ◌<◌, ℕ, ◌+◌, List, [], ◌∷◌, ◌++◌, length, false, Option, Some}
use Rattle.std.specs.Prelude.{None, ◌⊎◌}
use Rattle.warm_gossip.specs.declared.fault.NodeFault.TheVariants.{Memory}
use Rattle.warm_pool.specs.View.{device_at}
use Rattle.warm_world.specs.declared.event.Event.{Event}
use Rattle.warm_world.specs.declared.event.Answer.{Answer}
use Rattle.warm_world.specs.declared.event.WorldFault.TheVariants.{Node}
use Rattle.warm_world.specs.Lists.{IsNumber}
use Rattle.warm_world.specs.States.{ModelState, pool_of}
use Rattle.warm_world.specs.Effects.{Next}
use Rattle.warm_player.specs.declared.parse.Line.{Line}
use Rattle.warm_player.specs.declared.parse.Line.TheVariants as meant
use Rattle.warm_player.specs.Text.{lines}
use Rattle.warm_player.specs.Grammar.{meaning}
use Rattle.warm_player.specs.Reading.{IsPut}
use Rattle.warm_player.specs.Answers.{answer_text, refused_text, bad_line, end_refused}

-- An event is answered as the world's relation allows; if the relation allows an allocation
-- failure, its refusal is printed.
abbrev pub Happens : ModelState → Event → List ℕ → ModelState → Type 0
Happens old event out new = (answer : Answer) × Next old event answer new
    × (out ≡ answer_text answer)

-- The allocation for the bytes of a put failed: the put has not happened.
abbrev pub FindsNoMemory : ModelState → Event → List ℕ → ModelState → Type 0
FindsNoMemory old event out new = IsPut event × (out ≡ refused_text (Node Memory)) × (new ≡ old)

-- A line of this meaning and number may print `out` and lead from `old` to `new`.
abbrev pub LineAnswered : ModelState → ℕ → Option Line → List ℕ → ModelState → Type 0
LineAnswered old number None out new = (out ≡ bad_line number) × (new ≡ old)
LineAnswered old number (Some meant.Nothing) out new = (out ≡ []) × (new ≡ old)
LineAnswered old number (Some (meant.Act event)) out new = Happens old event out new
    ⊎ FindsNoMemory old event out new

-- lines, of which the first has this number, may print `out` and lead from `state` to `last`
abbrev pub PrintedFrom : ModelState → ℕ → List (List ℕ) → List ℕ → ModelState → Type 0
PrintedFrom state number [] out last = (out ≡ []) × (last ≡ state)
PrintedFrom state number (line ∷ rest) out last =
    (front back : List ℕ) × (next : ModelState)
    × LineAnswered state number (meaning line) front next
    × PrintedFrom next (number + 1) rest back last × (out ≡ front ++ back)

-- a schedule may print `out` and lead from `state` to `last`
abbrev pub Printed : ModelState → List ℕ → List ℕ → ModelState → Type 0
Printed state text out last = PrintedFrom state 1 (lines text) out last

-- a device of a replica may fail
pub record MayFail (m : ModelState) : Type 0 where
  pub replica : ℕ
  pub device : ℕ
  pub replica_there : IsNumber replica (length m.replicas)
  pub device_there : device < length (pool_of m replica).devices
  pub may : (device_at (pool_of m replica) device).unfailing ≡ false

-- After the answers nothing is printed or, if a device may fail, that writing back to the devices
-- failed.
abbrev pub EndsIn : ModelState → List ℕ → List ℕ → Type 0
EndsIn last answers out = (out ≡ answers) ⊎ (MayFail last × (out ≡ answers ++ end_refused))

-- A schedule that is played from `state` to its end may print `out`. If no device may fail, that is
-- exactly the output of the lines.
abbrev pub Played : ModelState → List ℕ → List ℕ → Type 0
Played state text out =
    (answers : List ℕ) × (last : ModelState) × Printed state text answers last
    × EndsIn last answers out
