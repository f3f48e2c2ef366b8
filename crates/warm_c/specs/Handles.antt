-- What a call of a handle does: a closed one says so, and an open one makes the call.
use Rattle.std.specs.Prelude.{ℤ, pos, ◌≡◌, Option, Some, None, Ok, Err}
use Rattle.warm_c_base.specs.declared.status.Refusal.{Refusal}
use Rattle.warm_c_base.specs.declared.status.Refusal.TheVariants.{Closed, AlreadyOpen}
use Rattle.warm_c_base.specs.Statuses.{code_of, status_of}
use Rattle.warm_c_calls.specs.declared.open_node.OpenNode.{OpenNode}
use Rattle.warm_c_calls.specs.Calls.{Ending}
use Rattle.warm_c_calls.specs.Opening.{OpenRequest, MayOpen, opened_handle, OpenRefused}

-- A closed handle says that it is closed, and stays so. An open one stays open; what it holds goes
-- as `goes` says, and the status is that of the ending.
abbrev pub OnHandle : {A : Type 0} → (A → Ending → A → Type 0) → Option A → ℤ → Option A → Type 0
OnHandle goes None status new = (status ≡ pos (code_of Closed)) × (new ≡ None)
OnHandle goes (Some old) status (Some new) = (ending : Ending) × goes old ending new
    × (status ≡ status_of ending)
OnHandle goes (Some old) status None = ⊥

-- a call that an open handle does not refuse
abbrev pub Surely : {A : Type 0} → (A → A → Type 0) → A → Ending → A → Type 0
Surely goes old (Ok given) new = goes old new
Surely goes old (Err why) new = ⊥

-- An open handle says that it is open, and is as it was. A closed one is then open and holds the
-- node that was requested, or stays closed.
abbrev pub Opens : OpenRequest → Option OpenNode → ℤ → Option OpenNode → Type 0
Opens a (Some old) status new = (status ≡ pos (code_of AlreadyOpen)) × (new ≡ Some old)
Opens a None status (Some held) = (status ≡ pos 0) × (held ≡ opened_handle a) × MayOpen a
Opens a None status None = (why : Refusal) × (status ≡ pos (code_of why)) × OpenRefused a why
