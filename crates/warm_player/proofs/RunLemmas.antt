-- What a schedule prints are the answers of a run.
use Rattle.std.proofs.Common.{◌≡◌, inl, inr, ℕ, ◌+◌, List, [], ◌∷◌, ◌++◌, Option, Some, None, refl, sym, subst}
use Rattle.warm_world.specs.declared.event.Event.{Event}
use Rattle.warm_world.specs.declared.event.Answer.{Answer}
use Rattle.warm_world.specs.States.{ModelState}
use Rattle.warm_world.specs.Effects.{Run}
use Rattle.warm_player.specs.declared.parse.Line.{Line}
use Rattle.warm_player.specs.declared.parse.Line.TheVariants as meant
use Rattle.warm_player.specs.Grammar.{meaning}
use Rattle.warm_player.specs.Outputs.{LineAnswered, PrintedFrom}
use Rattle.warm_player.specs.Laws.{LineIs, LinesAre}

-- the events of lines, answered so, and the run by them
pub record RunOfLines (state : ModelState) (number : ℕ) (rest : List (List ℕ)) (out : List ℕ)
    (last : ModelState) : Type 0 where
  pub events : List Event
  pub answers : List Answer
  pub lines_are : LinesAre number rest events answers out
  pub run : Run state events answers last

-- a run from the same state
run_from : (a b : ModelState) (events : List Event) (answers : List Answer) (last : ModelState)
    → b ≡ a → Run b events answers last → Run a events answers last
run_from a b events answers last same run = subst (λ (m : ModelState). Run m events answers last) same run

-- one line before others
line_first : (state next last : ModelState) (number : ℕ) (said : Option Line) (line : List ℕ)
    (rest : List (List ℕ)) (front back : List ℕ) → said ≡ meaning line
    → LineAnswered state number said front next → RunOfLines next (number + 1) rest back last
    → RunOfLines state number (line ∷ rest) (front ++ back) last
line_first state next last number None line rest front back is answered r = record {
  events = r.events;
  answers = r.answers;
  lines_are = ([], r.events, [], r.answers, front, back, subst (λ (o : Option Line). LineIs number o [] [] front) is (refl, refl, answered.0), r.lines_are, refl, refl, refl);
  run = run_from state next r.events r.answers last answered.1 r.run;
}
line_first state next last number (Some meant.Nothing) line rest front back is answered r = record {
  events = r.events;
  answers = r.answers;
  lines_are = ([], r.events, [], r.answers, front, back, subst (λ (o : Option Line). LineIs number o [] [] front) is (refl, refl, answered.0), r.lines_are, refl, refl, refl);
  run = run_from state next r.events r.answers last answered.1 r.run;
}
line_first state next last number (Some (meant.Act event)) line rest front back is (inl happens) r = record {
  events = event ∷ r.events;
  answers = happens.0 ∷ r.answers;
  lines_are = (event ∷ [], r.events, happens.0 ∷ [], r.answers, front, back, subst (λ (o : Option Line). LineIs number o (event ∷ []) (happens.0 ∷ []) front) is (inl (happens.0, refl, refl, happens.2)), r.lines_are, refl, refl, refl);
  run = (next, happens.1, r.run);
}
line_first state next last number (Some (meant.Act event)) line rest front back is (inr refused) r = record {
  events = r.events;
  answers = r.answers;
  lines_are = ([], r.events, [], r.answers, front, back, subst (λ (o : Option Line). LineIs number o [] [] front) is (inr (refused.0, refl, refl, refused.1)), r.lines_are, refl, refl, refl);
  run = run_from state next r.events r.answers last refused.2 r.run;
}

pub run_of_lines : (state last : ModelState) (number : ℕ) (rest : List (List ℕ)) (out : List ℕ)
    → PrintedFrom state number rest out last → RunOfLines state number rest out last
run_of_lines state last number [] out printed = record { events = []; answers = []; lines_are = (refl, refl, printed.0); run = printed.1 }
run_of_lines state last number (line ∷ rest) out printed =
    let later : RunOfLines printed.2 (number + 1) rest printed.1 last = run_of_lines printed.2 last (number + 1) rest printed.1 printed.4 in
    subst (λ (xs : List ℕ). RunOfLines state number (line ∷ rest) xs last) (sym printed.5)
    (line_first state printed.2 last number (meaning line) line rest printed.0 printed.1 refl printed.3 later)
