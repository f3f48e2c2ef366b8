-- Jobs one after another, each ended into one pass.
use Rattle.std.proofs.Common.{◌≡◌, ◌≤◌, ℕ, suc, Bool, false, List, [], ◌∷◌, ◌++◌, length, refl, sym, ap, subst, ◌<◌, arith}
use Rattle.std.specs.Prelude.{Result, IsErr, OnOk}
use Rattle.std.proofs.lemmas.List.{length-append}
use Rattle.std.proofs.lemmas.Result.{IfOk-from_err}
use Rattle.warm_machine.specs.declared.operation.Operation.{Operation}
use Rattle.warm_turn.specs.declared.table.EndedPass.{EndedPass}
use Rattle.warm_turn.specs.declared.table.View.{View}
use Rattle.warm_turn.specs.CallHistories.{Joined, Widened, as_ended, halved, new_pass}
use Rattle.warm_turn.proofs.PassLemmas.{Widened-self, Widened-halved, Widened-joined, Widened-trans}
use Rattle.warm_replica.specs.Jobs.{AllGave, JobWent, WentAs}
use Rattle.warm_replica.specs.Pairs.{Triples}
use Rattle.warm_gossip.specs.declared.call.Call.{Call}
use Rattle.warm_gossip.specs.declared.call.Reply.{Reply}
use Rattle.warm_replica.specs.declared.job.Step.{Step}
use Rattle.warm_replica.specs.declared.job.StepReply.{StepReply}

pub triples_more : {A B D : Type 0} (P : A → B → D → Type 0) (xs : List A) (ys : List B)
    (zs : List D) (x : A) (y : B) (z : D) → Triples P xs ys zs → P x y z
    → Triples P (xs ++ x ∷ []) (ys ++ y ∷ []) (zs ++ z ∷ [])
triples_more P [] [] [] x y z h p = (p, tt)
triples_more P (a ∷ xs) (b ∷ ys) (d ∷ zs) x y z h p = (h.0, triples_more P xs ys zs x y z h.1 p)
triples_more P xs ys zs x y z h p = absurd h

pub triples_length : {A B D : Type 0} (P : A → B → D → Type 0) (xs : List A) (ys : List B)
    (zs : List D) → Triples P xs ys zs → length ys ≡ length xs
triples_length P [] [] [] h = refl
triples_length P (a ∷ xs) (b ∷ ys) (d ∷ zs) h = ap suc (triples_length P xs ys zs h.1)
triples_length P xs ys zs h = absurd h

module _ {X C R : Type 0} where
  pub widened_none : (v : View X C R) → Widened v [] v
  widened_none = Widened-self

  -- one pass more was ended, which held none itself
  pub widened_more : (goes : X → C → R → X → Type 0) (v m t w : View X C R)
      (more : List (EndedPass C R)) → Widened v more m → Joined goes m t w → t.ended ≡ []
      → Widened v (more ++ as_ended t ∷ []) w
  widened_more goes v m t w more h j none =
      Widened-trans v m w more (as_ended t ∷ []) h (subst (λ (l : List (EndedPass C R)). Widened m (as_ended t ∷ l) w) none (Widened-joined goes m t w j))

  pub fan_more : {A B : Type 0} (P : A → B → EndedPass C R → Type 0) (goes : X → C → R → X → Type 0)
      (v u m t w : View X C R) (xs : List A) (x : A) (ys : List B) (y : B)
      (more : List (EndedPass C R))
      → u ≡ halved v → Widened u more m → Triples P xs ys more → Joined goes m t w → t.ended ≡ []
      → P x y (as_ended t)
      → (all : List (EndedPass C R)) × Widened v all w × Triples P (xs ++ x ∷ []) (ys ++ y ∷ []) all
  fan_more P goes v u m t w xs x ys y more e h th j none p = (more ++ as_ended t ∷ [], widened_more goes v m t w more (Widened-halved v m more (subst (λ q. Widened q more m) e h)) j none, triples_more P xs ys more x y (as_ended t) th p)

module _ {X : Type 0} where
  -- what is known of a job by equal names
  pub job_as : (cap1 cap2 : ℕ) (ss1 ss2 : List Step) (rs : List StepReply)
      (v1 v2 t : View X Call Reply) → cap1 ≡ cap2 → ss1 ≡ ss2 → v1 ≡ v2 → JobWent cap1 ss1 rs v1 t
      → JobWent cap2 ss2 rs v2 t
  job_as cap1 cap2 ss1 ss2 rs v1 v2 t a b d h =
      subst (λ (m : ℕ). JobWent m ss2 rs v2 t) a (subst (λ (l : List Step). JobWent cap1 l rs v2 t) b (subst (λ (u : View X Call Reply). JobWent cap1 ss1 rs u t) d h))

  pub ran_as : (capacity : ℕ) (ss : List Step) (rs : List StepReply) (v t : View X Call Reply)
      (n : ℕ) → JobWent capacity ss rs (new_pass v n) t → WentAs capacity ss rs (as_ended t)
  ran_as capacity ss rs v t n h =
      let number : t.number ≡ n = h.3.number in
      let mine : t.mine ≡ h.1 = h.3.mine in
      let end : Bool = t.found_last in
      (end, h.0, subst (λ (k : ℕ). AllGave capacity k false [] ss rs end h.0 t.mine) (sym number) (subst (λ (l : List (Operation Call Reply)). AllGave capacity n false [] ss rs end h.0 l) (sym mine) h.2))

  pub none_ended : (capacity : ℕ) (ss : List Step) (rs : List StepReply) (v t : View X Call Reply)
      (n : ℕ) → JobWent capacity ss rs (new_pass v n) t → t.ended ≡ []
  none_ended capacity ss rs v t n h = h.3.ended

module _ {X C R : Type 0} where
  pub fan_none : {A B : Type 0} (P : A → B → EndedPass C R → Type 0) (v : View X C R) (xs : List A)
      (ys : List B) → xs ≡ [] → ys ≡ []
      → (all : List (EndedPass C R)) × Widened v all v × Triples P xs ys all
  fan_none P v xs ys a b = ([], widened_none v, subst (λ l. Triples P l ys []) (sym a) (subst (λ l. Triples P [] l []) (sym b) tt))

  pub fan_err : (goes : X → C → R → X → Type 0) (v u m t w : View X C R)
      (more : List (EndedPass C R)) → u ≡ halved v → Widened u more m → Joined goes m t w
      → t.ended ≡ []
      → (all : List (EndedPass C R)) × Widened v all w × Unit {0}
  fan_err goes v u m t w more e h j none = (more ++ as_ended t ∷ [], widened_more goes v m t w more (Widened-halved v m more (subst (λ q. Widened q more m) e h)) j none, tt)

  pub fan_stop : {T E : Type 0} (P : List (EndedPass C R) → Type 0) (v w : View X C R)
      (r : Result T E) → IsErr r → w ≡ halved v
      → (all : List (EndedPass C R)) × Widened v all w × OnOk r (P all)
  fan_stop P v w r failed e = ([], subst (λ u. Widened v [] u) (sym e) (Widened-halved v (halved v) [] (widened_none (halved v))), IfOk-from_err r (λ _. P []) failed)

pub fan_fits : {A B D : Type 0} (P : A → B → D → Type 0) (js xs : List A) (x : A) (ys : List B)
    (more : List D) → js ≡ xs ++ x ∷ [] → Triples P xs ys more → (was now : ℕ) → length js ≤ was
    → was ≤ now → length ys < now
fan_fits P js xs x ys more is th was now a b = omega (arith, ap length is, length-append xs (x ∷ []), triples_length P xs ys more th, a, b)

module _ {X C R : Type 0} where
  pub fan_ends : (goes : X → C → R → X → Type 0) (v own w : View X C R) (n : ℕ)
      (more : List (EndedPass C R)) → Widened (new_pass v n) more own → Joined goes (halved v) own w
      → Widened v (as_ended own ∷ more) w
  fan_ends goes v own w n more h j = subst (λ (l : List (EndedPass C R)). Widened v (as_ended own ∷ l) w) h.ended (Widened-halved v w (as_ended own ∷ own.ended) (Widened-joined goes (halved v) own w j))
