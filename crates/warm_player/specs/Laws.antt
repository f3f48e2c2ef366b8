-- Laws of the output of a schedule.
use Rattle.std.specs.Prelude.{◌≡◌, ℕ, ◌+◌, List, [], ◌∷◌, ◌++◌, Option, Some, None, ◌⊎◌}
use Rattle.warm_gossip.specs.declared.fault.NodeFault.TheVariants.{Memory}
use Rattle.warm_world.specs.declared.event.Event.{Event}
use Rattle.warm_world.specs.declared.event.Answer.{Answer}
use Rattle.warm_world.specs.declared.event.WorldFault.TheVariants.{Node}
use Rattle.warm_world.specs.States.{ModelState}
use Rattle.warm_world.specs.Effects.{Run}
use Rattle.warm_world.specs.WorldStands.{IsRightRun}
use Rattle.warm_player.specs.declared.parse.Line.{Line}
use Rattle.warm_player.specs.declared.parse.Line.TheVariants as meant
use Rattle.warm_player.specs.Text.{lines}
use Rattle.warm_player.specs.Grammar.{meaning}
use Rattle.warm_player.specs.Reading.{IsPut}
use Rattle.warm_player.specs.Answers.{answer_text, refused_text, bad_line}
use Rattle.warm_player.specs.Outputs.{Printed}

-- A line of this meaning and number is these events with these answers, and prints this: one event,
-- or none for a bad line, a line without meaning, and a put for whose bytes the allocation failed.
abbrev pub LineIs : ℕ → Option Line → List Event → List Answer → List ℕ → Type 0
LineIs number None events answers out = (events ≡ []) × (answers ≡ []) × (out ≡ bad_line number)
LineIs number (Some meant.Nothing) events answers out = (events ≡ []) × (answers ≡ []) × (out ≡ [])
LineIs number (Some (meant.Act event)) events answers out =
    ((answer : Answer) × (events ≡ event ∷ []) × (answers ≡ answer ∷ [])
    × (out ≡ answer_text answer))
    ⊎ (IsPut event × (events ≡ []) × (answers ≡ []) × (out ≡ refused_text (Node Memory)))

-- lines, of which the first has this number, are these events with these answers, and print this
abbrev pub LinesAre : ℕ → List (List ℕ) → List Event → List Answer → List ℕ → Type 0
LinesAre number [] events answers out = (events ≡ []) × (answers ≡ []) × (out ≡ [])
LinesAre number (line ∷ rest) events answers out =
    (first later : List Event) × (said after : List Answer) × (front back : List ℕ)
    × LineIs number (meaning line) first said front × LinesAre (number + 1) rest later after back
    × (events ≡ first ++ later) × (answers ≡ said ++ after) × (out ≡ front ++ back)

-- A run of the world by the events of a text, whose answers are printed. Each victim is an unpinned
-- resident page of greatest backward 2-distance, and replicas that keep the same references agree.
pub record RunOf (state : ModelState) (text out : List ℕ) (last : ModelState) : Type 0 where
  pub events : List Event
  pub answers : List Answer
  pub lines_are : LinesAre 1 (lines text) events answers out
  pub run : Run state events answers last
  pub right : IsRightRun state events answers last run

-- A schedule prints the answers of a run of its events.
abbrev pub PlayIsRun : Type 0
PlayIsRun = (state last : ModelState) (text out : List ℕ) → Printed state text out last
    → RunOf state text out last
