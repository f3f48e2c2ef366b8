-- Calls of handles, from what happens to what they hold.
use Rattle.std.proofs.Common.{◌≡◌, ◌↔◌, ℕ, Option, Some, None, sym, subst}
use Rattle.std.specs.Prelude.{ℤ, pos}
use Rattle.warm_c_calls.specs.declared.open_node.OpenNode.{OpenNode}
use Rattle.warm_c_calls.specs.declared.open_visit.OpenVisit.{OpenVisit}
use Rattle.warm_c_base.specs.declared.status.Refusal.{Refusal}
use Rattle.warm_c_base.specs.Statuses.{code_of, status_of}
use Rattle.warm_c_calls.specs.Calls.{Ending}
use Rattle.warm_c_base.specs.Values.{IsBool}
use Rattle.warm_c.specs.Handles.{OnHandle, Opens}
use Rattle.warm_c_calls.specs.Opening.{OpenRequest, OpenRefused}
use Rattle.warm_c.specs.VisitHandles.{OpensVisits, VisitsRefused}

-- an open handle, which holds something before and after
pub called : {A : Type 0} (goes : A → Ending → A → Type 0) (before after : Option A) (status : ℤ)
    (old new : A) (ending : Ending)
    → before ≡ Some old → after ≡ Some new → goes old ending new → status ≡ status_of ending
    → OnHandle goes before status after
called {A} goes before after status old new ending was is went said =
    subst (λ (o : Option A). OnHandle goes o status after) (sym was) (subst (λ (o : Option A). OnHandle goes (Some old) status o) (sym is) (ending, went, said))

-- a closed one of which none was made
pub open_refused : (a : OpenRequest) (before after : Option OpenNode) (status : ℤ) (why : Refusal)
    → before ≡ None → after ≡ None → status ≡ pos (code_of why) → OpenRefused a why
    → Opens a before status after
open_refused a before after status why was is said for =
    subst (λ (o : Option OpenNode). Opens a o status after) (sym was) (subst (λ (o : Option OpenNode). Opens a None status o) (sym is) (why, said, for))

-- a closed one of visits, of which none was opened
pub visits_refused : (replica shards : ℕ) (before after : Option OpenVisit) (status : ℤ)
    (why : Refusal) → before ≡ None → after ≡ None → status ≡ pos (code_of why)
    → VisitsRefused replica shards why → OpensVisits replica shards before status after
visits_refused replica shards before after status why was is said for =
    subst (λ (o : Option OpenVisit). OpensVisits replica shards o status after) (sym was) (subst (λ (o : Option OpenVisit). OpensVisits replica shards None status o) (sym is) (why, said, for))
