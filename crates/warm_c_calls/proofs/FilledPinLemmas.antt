-- A page that C has read, and the page that it is to read next.
use Rattle.std.proofs.Common.{◌≡◌, ℕ, List, map, Err, refl, sym, subst}
use Rattle.warm_pool.specs.State.{PoolState}
use Rattle.warm_pool.specs.View.{view_of}
use Rattle.warm_pool.specs.Filling.{AreFromDevice}
use Rattle.warm_pool.proofs.FillingLemmas.{given_unsure}
use Rattle.warm_stamps.specs.declared.PageId.{PageId}
use Rattle.warm_gossip.specs.declared.fault.NodeFault.TheVariants.{Memory}
use Rattle.warm_c_base.specs.declared.fd_device.FdDevice.{FdDevice}
use Rattle.warm_c_calls.specs.declared.open_node.OpenNode.{OpenNode}
use Rattle.warm_c_base.specs.declared.status.Refusal.{Refusal}
use Rattle.warm_c_base.specs.declared.status.Refusal.TheVariants.{Node}
use Rattle.warm_c_base.specs.declared.values.WarmPage.{WarmPage}
use Rattle.warm_c_base.specs.FdParts.{fd_state}
use Rattle.warm_c_calls.specs.FilledPins.{NamesNext}

-- a refusal names no page
pub next_refused : (found : ℕ) (page : WarmPage) (old new : OpenNode) (why : Refusal)
    → why ≡ Node Memory → new ≡ old → NamesNext found page found page old (Err why) new
next_refused found page old new why is same =
    subst (λ w. NamesNext found page found page old (Err w) new) (sym is) (same, refl, refl)

-- of a page of a descriptor any bytes may be given
pub given_by_c : (s : PoolState) (all : List FdDevice) → map fd_state all ≡ s.devices → (p : PageId)
    (bytes : List ℕ) → AreFromDevice (view_of s) p bytes
given_by_c s all are p bytes = given_unsure fd_state (λ device. refl) s all are p bytes
