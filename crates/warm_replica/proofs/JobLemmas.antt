-- Steps of a job, one after another.
use Rattle.std.proofs.Common.{◌≡◌, ℕ, Bool, List, [], ◌∷◌, ◌++◌, refl, sym, ap, ◌∙◌, subst, append_assoc, append-nil}
use Rattle.warm_turn.proofs.PassLemmas.{Extended-self, Extended-trans}
use Rattle.warm_replica.specs.Working.{Working}
use Rattle.warm_replica.specs.Jobs.{Calls, Gave, AllGave, StepWent, StepsWent}
use Rattle.warm_stamps.specs.declared.Reference.{Reference}
use Rattle.warm_gossip.specs.declared.call.Call.{Call}
use Rattle.warm_gossip.specs.declared.call.Reply.{Reply}
use Rattle.warm_replica.specs.declared.job.Step.{Step}
use Rattle.warm_replica.specs.declared.job.StepReply.{StepReply}

pub gave_one_more : (capacity n : ℕ) (spent between after : Bool) (held mid end : List Reference)
    (ss : List Step) (rs : List StepReply) (s : Step) (r : StepReply) (calls one : Calls)
    → AllGave capacity n spent held ss rs between mid calls
    → Gave capacity n between mid s r after end one
    → AllGave capacity n spent held (ss ++ s ∷ []) (rs ++ r ∷ []) after end (calls ++ one)
gave_one_more capacity n spent between after held mid end [] [] s r calls one h g =
    let from : Gave capacity n spent held s r after end one = subst (λ (a : Bool). Gave capacity n a held s r after end one) h.0 (subst (λ (q : List Reference). Gave capacity n between q s r after end one) h.1 g) in
    (after, end, one, [], from, ap (λ (l : Calls). l ++ one) h.2 ∙ sym (append-nil one), (refl, refl, refl))
gave_one_more capacity n spent between after held mid end [] (q ∷ rs) s r calls one h g = absurd h
gave_one_more capacity n spent between after held mid end (p ∷ ss) [] s r calls one h g = absurd h
gave_one_more capacity n spent between after held mid end (p ∷ ss) (q ∷ rs) s r calls one h g =
    (h.0, h.1, h.2, h.3 ++ one, h.4, ap (λ (l : Calls). l ++ one) h.5 ∙ append_assoc h.2 h.3 one, gave_one_more capacity n h.0 between after h.1 mid end ss rs s r h.3 one h.6 g)

module _ {X : Type 0} where
  pub steps_none : (w : Working X Call Reply) → StepsWent w [] [] w
  steps_none w = ([], (refl, refl, refl), refl, Extended-self w.pass.view)

  pub steps_more : (a b c : Working X Call Reply) (ss : List Step) (rs : List StepReply) (s : Step)
      (r : StepReply) → StepsWent a ss rs b → StepWent b s r c
      → StepsWent a (ss ++ s ∷ []) (rs ++ r ∷ []) c
  steps_more a b c ss rs s r h g =
      let capacity : b.buffer.capacity ≡ a.buffer.capacity = h.2 in
      let number : b.pass.view.number ≡ a.pass.view.number = h.3.number in
      let before = b.pass.view.found_last in
      let after = c.pass.view.found_last in
      let one : Gave a.buffer.capacity a.pass.view.number before b.buffer.refs s r after c.buffer.refs g.0 =
      subst (λ (m : ℕ). Gave m a.pass.view.number before b.buffer.refs s r after c.buffer.refs g.0) capacity
      (subst (λ (m : ℕ). Gave b.buffer.capacity m before b.buffer.refs s r after c.buffer.refs g.0) number g.1) in
      (h.0 ++ g.0, gave_one_more a.buffer.capacity a.pass.view.number a.pass.view.found_last before after a.buffer.refs b.buffer.refs c.buffer.refs ss rs s r h.0 g.0 h.1 one, g.2 ∙ h.2, Extended-trans a.pass.view b.pass.view c.pass.view h.0 g.0 h.3 g.3)
