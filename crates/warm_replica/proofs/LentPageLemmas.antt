-- The bytes of a page that a node lends are those that a read gives.
use Rattle.std.proofs.Common.{◌≡◌, ℕ, List, length, refl, sym, subst, arith}
use Rattle.std.proofs.lemmas.List.{take_all}
use Rattle.warm_pool.specs.declared.slot.Slot.{Slot}
use Rattle.warm_pool.specs.PageBytes.{IsLent}
use Rattle.warm_pool.specs.View.{view_of, Holds}
use Rattle.warm_pool.proofs.WriteLemmas.{read_lent}
use Rattle.warm_gossip.specs.State.{NodeState}
use Rattle.warm_replica.specs.LentPages.{SlotShown}

-- the bytes that are lent are those that a read gives
pub lent_shown : (s : NodeState) (slot : Slot) (bytes lent : List ℕ) → Holds (view_of s.pool) slot
    → IsLent (view_of s.pool) slot lent → bytes ≡ lent → SlotShown s slot bytes
lent_shown s slot bytes lent holds is_lent same =
    let here : IsLent (view_of s.pool) slot bytes = subst (λ (l : List ℕ). IsLent (view_of s.pool) slot l) (sym same) is_lent in
    let size = here.size in
    let n : ℕ = length bytes in
    record {
      lends = here;
      reads = (holds, refl, read_lent (view_of s.pool) slot 0 bytes bytes n n here (sym (take_all n bytes (omega arith))) refl refl (omega (arith, size)), refl);
    }
