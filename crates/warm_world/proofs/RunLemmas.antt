-- A run is extended by one event.
use Rattle.std.proofs.Common.{List, [], ◌∷◌, ◌++◌, refl, subst}
use Rattle.warm_world.specs.Views.{WorldView}
use Rattle.warm_world.specs.declared.event.Event.{Event}
use Rattle.warm_world.specs.declared.event.Answer.{Answer}
use Rattle.warm_world.specs.States.{ModelState}
use Rattle.warm_world.specs.Effects.{Next, Run}
use Rattle.warm_world.specs.WorldStands.{EachVictim, RunsAreRight, WorldStands, Stepped, Ran}
use Rattle.warm_world.proofs.VictimLemmas.{victims_are_farthest}
use Rattle.warm_world.proofs.AgreementLemmas.{histories_are_exact, models_agree, replicas_agree}

-- a run, and one event more
pub Run-more : (old : ModelState) (events : List Event) (answers : List Answer) (mid : ModelState)
    (event : Event) (answer : Answer) (new : ModelState) → Run old events answers mid
    → Next mid event answer new → Run old (events ++ event ∷ []) (answers ++ answer ∷ []) new
Run-more old [] [] mid event answer new is next =
    let P : ModelState → Type 0 = λ m. Next m event answer new in
    (new, subst P is next, refl)
Run-more old [] (a ∷ answers) mid event answer new never next = absurd never
Run-more old (e ∷ events) [] mid event answer new never next = absurd never
Run-more old (e ∷ events) (a ∷ answers) mid event answer new run next = (run.0, run.1, Run-more run.0 events answers mid event answer new run.2 next)

-- every run is right
each_victim : (old : ModelState) (events : List Event) (answers : List Answer) (new : ModelState)
    (run : Run old events answers new) → EachVictim old events answers new run
each_victim old [] [] new run = tt
each_victim old [] (a ∷ answers) new never = absurd never
each_victim old (e ∷ events) [] new never = absurd never
each_victim old (e ∷ events) (a ∷ answers) new run = (victims_are_farthest old e a run.0 run.1, each_victim run.0 events answers new run.2)

pub runs_are_right : RunsAreRight
runs_are_right old events answers new run = record { agree = models_agree new; victims = each_victim old events answers new run }

pub ran_more : (old : ModelState) (events : List Event) (answers : List Answer) (w w' : WorldView)
    (event : Event) (answer : Answer) → Ran old events answers w
    → ((m : ModelState) → WorldStands w m → Stepped m event answer w')
    → Ran old (events ++ event ∷ []) (answers ++ answer ∷ []) w'
ran_more old events answers w w' event answer ran steps =
    let stepped = steps ran.new ran.stands in
    record {
      new = stepped.new;
      run = Run-more old events answers ran.new event answer stepped.new ran.run stepped.next;
      stands = stepped.stands;
      exact = histories_are_exact w' stepped.new stepped.stands;
      agree = replicas_agree w' stepped.new stepped.stands;
      victims = each_victim old (events ++ event ∷ []) (answers ++ answer ∷ []) stepped.new (Run-more old events answers ran.new event answer stepped.new ran.run stepped.next);
    }

-- before the first event
pub ran_none : (m : ModelState) (w : WorldView) → WorldStands w m → Ran m [] [] w
ran_none m w st = record { new = m; run = refl; stands = st; exact = histories_are_exact w m st; agree = replicas_agree w m st; victims = tt }
