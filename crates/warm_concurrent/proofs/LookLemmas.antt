-- What a look in the shard of its page went as: it was given bytes, and never sent to another shard.
use Rattle.std.proofs.Common.{◌≡◌, ℕ, List, subst}
use Rattle.warm_stamps.specs.declared.PageId.{PageId}
use Rattle.warm_visits.specs.ShardNumbers.{shard_of}
use Rattle.warm_shard_machine.specs.declared.calls.ShardCall.{ShardCall}
use Rattle.warm_shard_machine.specs.declared.calls.ShardCall.TheVariants.{Look}
use Rattle.warm_shard_machine.specs.declared.calls.ShardReply.{ShardReply}
use Rattle.warm_shard_machine.specs.declared.calls.ShardReply.TheVariants.{Foreign, Looked}
use Rattle.warm_shard_machine.specs.declared.visitors.Went.{Went}
use Rattle.warm_shard_machine.specs.declared.visitors.Went.TheVariants as went
use Rattle.warm_concurrent.specs.Attached.{ShardPass}
use Rattle.warm_concurrent.specs.Clauses.{AnsweredByShard}
use Rattle.warm_shard_machine.specs.ShardSteps.{MayAnswer}
use Rattle.warm_concurrent.specs.Looking.{LooksAt}
use Rattle.warm_shard_machine.specs.Visits.{Shows, VisitWentAs}

shown : (so : List ℕ → Type 0) (old : List ShardPass) (i : ℕ) (page : PageId) (new : List ShardPass)
    (r : ShardReply) → Shows so r → AnsweredByShard old i (Look page) r new → LooksAt old i page so new
shown so old i page new (Looked slot bytes) shows answered = (slot, bytes, shows, answered)
shown so old i page new r shows answered = absurd shows

-- a look that gave something
pub looked : {T : Type 0} (so : T → List ℕ → Type 0) (old : List ShardPass) (i : ℕ) (page : PageId)
    (new : List ShardPass) (given : T) (how : Went T) (c : ShardCall) (r : ShardReply)
    → how ≡ went.Given given → c ≡ Look page → VisitWentAs (λ t. Shows (so t)) how r
    → AnsweredByShard old i c r new → LooksAt old i page (so given) new
looked {T} so old i page new given how c r is look made answered =
    shown (so given) old i page new r
    (subst (λ (w : Went T). VisitWentAs (λ (t : T). Shows (so t)) w r) is made)
    (subst (λ (k : ShardCall). AnsweredByShard old i k r new) look answered)

-- the shard has the page, so it does not say that another has it
pub is_here : {T : Type 0} (so : T → ShardReply → Type 0) (count i : ℕ) (page : PageId)
    (how : Went T) (c : ShardCall) (r : ShardReply) → how ≡ went.Foreign → c ≡ Look page
    → VisitWentAs so how r → MayAnswer count i c r → shard_of count page ≡ i → ⊥
is_here {T} so count i page how c r is look made may own =
    let foreign : r ≡ Foreign = subst (λ (w : Went T). VisitWentAs so w r) is made in
    let here : MayAnswer count i (Look page) r = subst (λ (k : ShardCall). MayAnswer count i k r) look may in
    let none : MayAnswer count i (Look page) Foreign = subst (λ (x : ShardReply). MayAnswer count i (Look page) x) foreign here in
    (none own).2
