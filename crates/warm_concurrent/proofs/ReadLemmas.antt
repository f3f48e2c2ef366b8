-- What a visit that reads gave, and what it made.
use Rattle.std.proofs.Common.{◌≡◌, ℕ, Bool, true, false, List, [], ◌∷◌, length, refl, sym, ap, subst, ◌∙◌}
use Rattle.std.specs.Prelude.{None, Some}
use Rattle.warm_history.specs.ReferenceSets.{set_of_list}
use Rattle.warm_frames.specs.declared.message.Message.TheVariants.{Digest}
use Rattle.warm_machine.specs.declared.operation.Operation.{Operation}
use Rattle.warm_machine.specs.Runs.{Runs}
use Rattle.warm_visits.specs.Laws.{EntersAny}
use Rattle.warm_visits.specs.Visits.{Ask, Errand, Said, VisitState, at_each, copy_of, copy_visit, each_shard, giving, offer_in, offer_visit}
use Rattle.warm_visits.proofs.MadeLemmas.{made_stays_of_its_kind}
use Rattle.warm_visits.proofs.RunLemmas.{runs_seen}
use Rattle.warm_visits.proofs.VisitGiven.{asked, each_none, none_follows, plan_gives}
use Rattle.warm_shard_machine.specs.Entering.{gave_ask, gave_entry, gave_first}
use Rattle.warm_shard_machine.specs.declared.calls.ShardCall.TheVariants.{Enter}
use Rattle.warm_shard_machine.specs.declared.calls.ShardReply.TheVariants.{Entered}
use Rattle.warm_concurrent.specs.Attached.{ShardPass, shard_pass}
use Rattle.warm_concurrent.specs.Visiting.{EntersByTurn, GoneThrough, Visiting, visiting}
use Rattle.warm_concurrent.proofs.GivenLemmas.{EachGives, given_none, gives_as, gives_called, none_twice, nothing, one_nothing}

-- ---- what it gave

-- nothing is given by these errands
abbrev pub AsksNone : List Errand → Type 0
AsksNone es = plan_gives es ≡ set_of_list []

asks_none : (ask : Ask) → ((b : Bool) → gave_ask ask b ≡ set_of_list []) → asked ask ≡ set_of_list []
asks_none (giving S) none = none false
asks_none ask none = refl

gave_none : (ask : Ask) (b : Bool) → asked ask ≡ set_of_list [] → gave_ask ask b ≡ set_of_list []
gave_none (giving S) false none = none
gave_none (giving S) true none = refl
gave_none ask b none = refl

pub asks_each : (ask : Ask) → ((b : Bool) → gave_ask ask b ≡ set_of_list []) → (count : ℕ)
    → AsksNone (at_each count ask)
asks_each ask none count = each_none ask (asks_none ask none) (each_shard count)

pub reads_nothing : (s t : Visiting) (es : List (Operation Errand Said)) → AsksNone s.visit.plan
    → Runs EntersByTurn s es t → EachGives nothing (length s.passes) s.passes t.passes
reads_nothing s t [] none runs =
    given_none (length s.passes) s.passes t.passes (ap (λ (x : Visiting). x.passes) (sym runs))
reads_nothing s t (o ∷ os) none (y, (lt, entry, answered), runs) =
    let i = o.call.shard in
    let p = shard_pass s.passes i in
    let q = shard_pass y.passes i in
    let follows = none_follows s.visit y.visit o.call o.reply none entry in
    let gave : gave_entry s.visit y.visit ≡ set_of_list [] = ap (λ es. gave_first es y.visit.stopped) entry.2.next ∙ gave_none o.call.ask y.visit.stopped follows.0 in
    none_twice s.passes y.passes t.passes
    (one_nothing s.passes y.passes i lt answered.1 (gives_as (gave_entry s.visit y.visit) (set_of_list []) p q gave (gives_called p q (Enter (length s.passes) i s.visit) (Entered y.visit) answered.0)))
    (reads_nothing y t os follows.1 runs)

-- ---- what it made

-- entries by turns are entries
gone_any : (u v w : VisitState) (old new : List ShardPass) → v ≡ u → (gone : GoneThrough v w old new)
    → Runs EntersAny u gone.goes.0 w
gone_any u v w old new is gone =
    subst (λ (x : VisitState). Runs EntersAny x gone.goes.0 w) is
    (runs_seen EntersByTurn EntersAny (λ (x : Visiting). x.visit) (λ s t e said entry. entry.1) (visiting v old) (visiting w new) gone.goes.0 gone.goes.1)

pub copied_some : (id count : ℕ) (v w : VisitState) (old new : List ShardPass)
    → v ≡ copy_visit id count → GoneThrough v w old new → None ≡ copy_of w.made → ⊥
copied_some id count v w old new is gone none =
    let copy = made_stays_of_its_kind.copies id count gone.goes.0 w (gone_any (copy_visit id count) v w old new is gone) in
    let no : None ≡ Some copy.0 = none ∙ ap copy_of copy.1 in absurd (cc)

pub offered_some : (id count : ℕ) (v w : VisitState) (old new : List ShardPass)
    → v ≡ offer_visit id count → GoneThrough v w old new → None ≡ offer_in w.id w.made → ⊥
offered_some id count v w old new is gone none =
    let offer = made_stays_of_its_kind.offers id count gone.goes.0 w (gone_any (offer_visit id count) v w old new is gone) in
    let no : None ≡ Some (Digest w.id offer.0 offer.1) = none ∙ ap (offer_in w.id) offer.2 in
    absurd (cc)
