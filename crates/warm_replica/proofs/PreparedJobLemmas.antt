-- Jobs and what was allocated for them.
use Rattle.std.proofs.Common.{ℕ, List, [], ◌∷◌, sym, subst}
use Rattle.std.specs.Global.{Vec}
use Rattle.warm_turn.specs.declared.table.EndedPass.{EndedPass}
use Rattle.warm_turn.specs.declared.table.View.{View}
use Rattle.warm_turn.specs.CallHistories.{Joined, Widened, as_ended, halved, new_pass}
use Rattle.warm_gossip.specs.declared.call.Call.{Call}
use Rattle.warm_gossip.specs.declared.call.Reply.{Reply}
use Rattle.warm_replica.specs.declared.job.Job.{Job}
use Rattle.warm_replica.specs.declared.job.Step.{Step}
use Rattle.warm_replica.specs.declared.prepared_job.PreparedJob.{PreparedJob}
use Rattle.warm_replica.specs.PreparedJobs.{ArePrepared, IsPrepared, PreparedJobWentAs}
use Rattle.warm_replica.specs.Jobs.{HasSeenMore, JobsWent, JobWentAs, WentAs}
use Rattle.warm_replica.specs.Pairs.{Pairs, Triples}
use Rattle.warm_replica.specs.Replied.{Replied}
use Rattle.warm_replica.proofs.JobThreadLemmas.{fan_ends}

pub pairs_triples : {A B D E : Type 0} (P : A → B → Type 0) (Q : B → D → E → Type 0)
    (S : A → D → E → Type 0) → ((a : A) (b : B) (d : D) (e : E) → P a b → Q b d e → S a d e)
    → (xs : List A) (ys : List B) (zs : List D) (ws : List E) → Pairs P xs ys → Triples Q ys zs ws
    → Triples S xs zs ws
pairs_triples P Q S f [] [] [] [] h g = tt
pairs_triples P Q S f (a ∷ xs) (b ∷ ys) (d ∷ zs) (e ∷ ws) h g = (f a b d e h.0 g.0, pairs_triples P Q S f xs ys zs ws h.1 g.1)
pairs_triples P Q S f [] [] [] (e ∷ ws) h g = absurd g
pairs_triples P Q S f [] [] (d ∷ zs) [] h g = absurd g
pairs_triples P Q S f [] [] (d ∷ zs) (e ∷ ws) h g = absurd g
pairs_triples P Q S f [] (b ∷ ys) zs ws h g = absurd h
pairs_triples P Q S f (a ∷ xs) [] zs ws h g = absurd h
pairs_triples P Q S f (a ∷ xs) (b ∷ ys) [] [] h g = absurd g
pairs_triples P Q S f (a ∷ xs) (b ∷ ys) [] (e ∷ ws) h g = absurd g
pairs_triples P Q S f (a ∷ xs) (b ∷ ys) (d ∷ zs) [] h g = absurd g

module _ {X : Type 0} (goes : X → Call → Reply → X → Type 0) where
  -- the pass of a run of jobs was ended into this one
  pub has_seen_more : (v own w : View X Call Reply) (n : ℕ) (more : List (EndedPass Call Reply))
      → Widened (new_pass v n) more own → Joined goes (halved v) own w → HasSeenMore v w
  has_seen_more v own w n more wide joined = (as_ended own ∷ more, fan_ends goes v own w n more wide joined)

  pub jobs_went : (v own w : View X Call Reply) (n : ℕ) (jobs : List Job)
      (prepared : List PreparedJob) (all : List Replied) (more : List (EndedPass Call Reply))
      → ArePrepared jobs prepared → Widened (new_pass v n) more own → Joined goes (halved v) own w
      → Triples PreparedJobWentAs prepared all more → JobsWent v jobs all w
  jobs_went v own w n jobs prepared all more same wide joined went = (
    as_ended own,
    more,
    fan_ends goes v own w n more wide joined,
    wide.mine,
    pairs_triples IsPrepared PreparedJobWentAs JobWentAs
        (λ j r d e p q. subst (λ (k : ℕ). WentAs k j.steps.items d.items e) (sym p.0) (subst (λ (l : Vec Step). WentAs r.buffer.capacity l.items d.items e) (sym p.1) q))
        jobs prepared all more same went,
  )
