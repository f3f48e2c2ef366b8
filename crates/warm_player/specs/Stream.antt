-- A schedule that is read piece by piece.
use Rattle.std.specs.Prelude.{◌≡◌, ℕ, ◌+◌, List, [], ◌++◌, take}
use Rattle.warm_world.specs.States.{ModelState}
use Rattle.warm_world.specs.Views.{WorldView, world_view}
use Rattle.warm_world.specs.WorldStands.{WorldStands}
use Rattle.warm_player.specs.Text.{IsLine, lines}
use Rattle.warm_player.specs.Grammar.{meaning}
use Rattle.warm_player.specs.Outputs.{LineAnswered, PrintedFrom, EndsIn}
use Rattle.warm_player.specs.declared.parse.TheConstants.{MAX_LINE}
use Rattle.warm_player.specs.declared.player.Session.{Session}

-- what contracts see of a session: its world, the number of the current line, and the bytes held of
-- it
pub record SessionView : Type 0 where
  pub world : WorldView
  pub number : ℕ
  pub held : List ℕ

-- the view of a session: its world, the number of the current line, and the bytes held of it
abbrev pub session : {D : Type 0} → Session D → SessionView
session s = record { world = world_view s.world; number = s.number; held = s.line.items }

-- the current line, of which at most one byte more than the limit is held
pub record HoldsLine (held line : List ℕ) : Type 0 where
  pub held_is : held ≡ take (MAX_LINE + 1) line
  pub is_line : IsLine line

-- the session's world stands for this state, and this is the current line so far
pub record SessionStands (s : SessionView) (state : ModelState) (line : List ℕ) : Type 0 where
  pub stands : WorldStands s.world state
  pub begun : HoldsLine s.held line

-- a world in this state, before the first line
pub record IsFresh (s : SessionView) (state : ModelState) : Type 0 where
  pub holds : SessionStands s state []
  pub first : s.number ≡ 1

-- these bytes are added to the current line
pub record AddsBytes (old : SessionView) (bytes : List ℕ) (new : SessionView) : Type 0 where
  pub begun : (line : List ℕ) → HoldsLine old.held line → HoldsLine new.held (line ++ bytes)
  pub world : new.world ≡ old.world
  pub number : new.number ≡ old.number

-- the answer to the line of this number was printed, and the world stands for the next state
abbrev pub AnswersLine : WorldView → ℕ → List ℕ → List ℕ → WorldView → Type 0
AnswersLine old number line out new = (state : ModelState) → WorldStands old state
    → (next : ModelState) × WorldStands new next × LineAnswered state number (meaning line) out next

-- The session read these bytes and printed this: with any possible output for the rest, it is a
-- possible output for the whole.
unfoldable pub ReadsOn : SessionView → List ℕ → List ℕ → SessionView → Type 0
ReadsOn old bytes out new = (state : ModelState) (begun : List ℕ) → SessionStands old state begun
    → (next : ModelState) × (line : List ℕ) × SessionStands new next line
    × ((tail rest : List ℕ) (last : ModelState)
    → PrintedFrom next new.number (lines (line ++ tail)) rest last
    → PrintedFrom state old.number (lines (begun ++ (bytes ++ tail))) (out ++ rest) last)

-- the end of a play with this world prints this after the answers
abbrev pub PrintsEnding : WorldView → List ℕ → Type 0
PrintsEnding world out = (state : ModelState) (answers : List ℕ) → WorldStands world state
    → EndsIn state answers (answers ++ out)

-- The input has ended, and the session printed the answer to the last line, and then this for the
-- end.
unfoldable pub Ends : SessionView → List ℕ → List ℕ → Type 0
Ends s answers closing = (state : ModelState) (begun : List ℕ) → SessionStands s state begun
    → (last : ModelState) × PrintedFrom state s.number (lines begun) answers last
    × EndsIn last answers (answers ++ closing)
