-- The stage of a visit: what its next errand asks.
use Rattle.std.specs.Prelude.{List, [], ◌∷◌, Option, Some, None}
use Rattle.warm_stamps.specs.declared.Reference.{Reference}
use Rattle.warm_visits.specs.declared.stage.Stage.{Stage}
use Rattle.warm_visits.specs.declared.stage.Stage.TheVariants.{Raising, Giving, Offering, Sending}
use Rattle.warm_visits.specs.declared.stage.Stage.TheVariants.{Copying}
use Rattle.warm_visits.specs.Visits.{Ask, Errand, copying, giving, offering, sending}

-- a horizon alone is given, or references
abbrev pub giving_stage : List Reference → Stage
giving_stage [] = Raising
giving_stage (r ∷ rs) = Giving

-- the stage of what is asked
abbrev pub stage_of : Ask → Stage
stage_of (giving S) = giving_stage S.given
stage_of offering = Offering
stage_of (sending bucket after) = Sending
stage_of copying = Copying

-- the stage of the first of these errands, if there is one
abbrev pub next_stage : List Errand → Option Stage
next_stage [] = None
next_stage (e ∷ rest) = Some (stage_of e.ask)
