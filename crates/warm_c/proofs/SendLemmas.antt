-- The pointer of a box may go to another thread, since what is in the box may.
use mir.Raw.{raw}
use base.Shift.{Keyless}
use denote.Memory.{lone}
use denote.RattleType.{RattleType}
use denote.RawPtr.{Ptr}
use denote.Struct.Struct.{exits_of}
use denote.Struct.Owning.{shape, fields, to}
use denote.Param.Send.{IsSend, AllSend, owning_send, struct_send, sendable}
use Rattle.std.proofs.Crossing.{frees}
use Rattle.std.proofs.alloc.Global.TheSendSync as heap
use Rattle.std_alloc.proofs.SendSync.{lies, quiet}
use Rattle.std.specs.Prelude.{Option, None, Some}
use Rattle.std.specs.declared.alloc.Global.{Global}
use Rattle.std.specs.contracts.impls.GlobalAllocator.TheImpl.{ghosts}
use Rattle.warm_c.specs.Ownership.{pointer_owns}
use Rattle.warm_c_calls.specs.contracts.open_node.OpenNode as node
use Rattle.warm_c_calls.specs.contracts.open_visit.OpenVisit as visit
use Rattle.warm_c_calls.proofs.open_node.OpenNode.TheSendSync as node_crossing
use Rattle.warm_c_calls.proofs.open_visit.OpenVisit.TheSendSync as visit_crossing
use Rattle.warm_c.specs.contracts.held_pointer.HeldPointer as pointer
use Rattle.warm_c.specs.contracts.visit_pointer.VisitPointer as visit_pointer

owned : (R : RattleType) → IsSend R → (a : Global) (p : Ptr) (h : Option R.Denot)
    → Keyless (pointer_owns (ghosts.dealloc_token a) R p h)
owned R crosses a p None = tt
owned R crosses a p (Some x) = (lies R crosses p x, frees.frees a (raw (lone R.mir)) p)

pub pointer_send : IsSend pointer.the_row
pointer_send =
    let O = pointer.the_type in
    let all : AllSend (fields O) = (search sendable, (heap.the_field_send, tt)) in
    owning_send O all (λ d. owned node.the_row node_crossing.the_send d.alloc d.at d.node)
    (λ k. quiet (to O) (exits_of k (fields O)) ((struct_send (shape O) all).leaving k))

pub visit_send : IsSend visit_pointer.the_row
visit_send =
    let O = visit_pointer.the_type in
    let all : AllSend (fields O) = (search sendable, (heap.the_field_send, tt)) in
    owning_send O all (λ d. owned visit.the_row visit_crossing.the_send d.alloc d.at d.visit)
    (λ k. quiet (to O) (exits_of k (fields O)) ((struct_send (shape O) all).leaving k))
