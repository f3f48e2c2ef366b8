-- Replies of which touches are counted.
use Rattle.std.proofs.Common.{◌≡◌, ◌≤◌, ◌+◌, ℕ, zero, suc, List, [], ◌∷◌, ◌++◌, length, replicate, refl, sym, ap, subst, ◌∙◌, append_assoc, append-nil, arith}
use Rattle.std.proofs.lemmas.List.{length-append, length-replicate}
use Rattle.std.proofs.lemmas.List.Elements.{All-append, All-cons, All-head, All-nil, All-replicate, All-tail}
use Rattle.std.specs.List.{All}
use Rattle.warm_replica.specs.declared.job.StepReply.{StepReply}
use Rattle.warm_replica.specs.declared.job.StepReply.TheVariants.{Touched}
use Rattle.warm_replica.specs.declared.replies.Run.{Run}
use Rattle.warm_replica.specs.Replied.{IsTaken, ended, replies_of}

-- one run more
pub ended_more : (runs : List Run) (run : Run)
    → ended (runs ++ run ∷ []) ≡ replies_of runs run.touched ++ run.reply ∷ []
ended_more [] run = refl
ended_more (r ∷ runs) run =
    let one = replicate r.touched Touched in
    let rest = r.reply ∷ ended runs in
    let more = replicate run.touched Touched in
    let last = run.reply ∷ [] in
    ap (λ (l : List StepReply). one ++ r.reply ∷ l) (ended_more runs run)
    ∙ (sym (append_assoc one (rest ++ more) last) ∙ ap (λ (l : List StepReply). l ++ last) (sym (append_assoc one rest more)))

-- one reply more, which ends the touches before it
pub reply_more : (runs : List Run) (run : Run)
    → replies_of (runs ++ run ∷ []) 0 ≡ replies_of runs run.touched ++ run.reply ∷ []
reply_more runs run = append-nil (ended (runs ++ run ∷ [])) ∙ ended_more runs run

ended_append : (xs ys : List Run) → ended (xs ++ ys) ≡ ended xs ++ ended ys
ended_append [] ys = refl
ended_append (x ∷ xs) ys =
    ap (λ (l : List StepReply). replicate x.touched Touched ++ x.reply ∷ l) (ended_append xs ys)
    ∙ sym (append_assoc (replicate x.touched Touched) (x.reply ∷ ended xs) (ended ys))

-- there are at least as many replies as runs and touches
ended_long : (runs : List Run) → length runs ≤ length (ended runs)
ended_long [] = omega (arith)
ended_long (run ∷ runs) = omega (arith, length-append (replicate run.touched Touched) (run.reply ∷ ended runs), ended_long runs)

pub replies_long : (runs : List Run) (n : ℕ) → length runs + n ≤ length (replies_of runs n)
replies_long runs n = omega (arith, ended_long runs, length-append (ended runs) (replicate n Touched), length-replicate n Touched)

-- if there is capacity for all replies, those of the first runs leave some for the next run's
pub run_fits : (all xs rest : List Run) (run : Run) (n capacity : ℕ) → xs ++ run ∷ rest ≡ all
    → length (replies_of all n) ≤ capacity → length (ended xs) + run.touched + 1 ≤ capacity
run_fits all xs rest run n capacity is fits = omega (
  arith,
  ap (λ (l : List Run). length (ended l)) is,
  ap length (ended_append xs (run ∷ rest)),
  length-append (ended xs) (ended (run ∷ rest)),
  length-append (replicate run.touched Touched) (run.reply ∷ ended rest),
  length-replicate run.touched Touched,
  length-append (ended all) (replicate n Touched),
  fits,
)

-- the replies that end runs are of steps that were taken, if all replies are
ended_taken : (runs : List Run) → All (λ run. IsTaken run.reply) runs → All IsTaken (ended runs)
ended_taken [] h = All-nil IsTaken
ended_taken (run ∷ runs) h =
    All-append IsTaken (replicate run.touched Touched) (run.reply ∷ ended runs) (All-replicate IsTaken run.touched Touched tt)
    (All-cons IsTaken run.reply (ended runs) (All-head (λ (r : Run). IsTaken r.reply) run runs h) (ended_taken runs (All-tail (λ (r : Run). IsTaken r.reply) run runs h)))

pub taken_if : (runs : List Run) (n : ℕ) → All (λ run. IsTaken run.reply) runs
    → All IsTaken (replies_of runs n)
taken_if runs n h = All-append IsTaken (ended runs) (replicate n Touched) (ended_taken runs h) (All-replicate IsTaken n Touched tt)

-- what is true of all is true of those behind
all_behind : (n : ℕ) (l : List StepReply) → All IsTaken (replicate n Touched ++ l) → All IsTaken l
all_behind zero l h = h
all_behind (suc n) l h = all_behind n l (All-tail IsTaken Touched (replicate n Touched ++ l) h)

pub taken_only_if : (runs : List Run) (n : ℕ) → All IsTaken (replies_of runs n)
    → All (λ run. IsTaken run.reply) runs
taken_only_if [] n h = All-nil (λ (r : Run). IsTaken r.reply)
taken_only_if (run ∷ runs) n h =
    let split = subst (λ (l : List StepReply). All IsTaken l) (append_assoc (replicate run.touched Touched) (run.reply ∷ ended runs) (replicate n Touched)) h in
    let behind = all_behind run.touched (run.reply ∷ replies_of runs n) split in
    All-cons (λ (r : Run). IsTaken r.reply) run runs (All-head IsTaken run.reply (replies_of runs n) behind) (taken_only_if runs n (All-tail IsTaken run.reply (replies_of runs n) behind))
