use Rattle.warm_frame_table.specs.declared.selection.Devices.TheVariants.{All}
use Rattle.warm_pool.specs.State.{IsPool, IsSettled, PoolState}
use Rattle.warm_pool.proofs.SettleLemmas.{seen_down, seen_settled}
use Rattle.warm_pool.proofs.EmptyLemmas.{unfixed_to, vacated_pool, empty_ranked, emptied_pool, empty_settled, becomes_empty}
use Rattle.warm_pool.specs.Calls.{FlushesOnce}
use Rattle.warm_pool.proofs.FlushLemmas.{handed_on}
use Rattle.std.proofs.Common.{subst, sym}
use Rattle.warm_pool.proofs.pool.Pool.empty.Goals as goal

pub vacate_selected-requires : goal.vacate_selected-requires
vacate_selected-requires g c = λ i _. (seen_settled c.self.view_is c.in_ok-write_back_unpinned.ensures.down c.in_ok-write_back_unpinned.ensures.flushed).clean i

pub invariant_of-self : goal.invariant_of-self
invariant_of-self g c =
    let unfixed = unfixed_to All _ _ _ (seen_down c.self.view_is c.in_ok-write_back_unpinned.ensures.down).becomes c.in_ok-write_back_unpinned.ensures.unfixed in
    becomes_empty (λ s. IsPool s) All _ _ _ _ c.vacate_selected.ensures (vacated_pool All _ unfixed c.self.invariant)

pub returns-clause-ranked : goal.returns-clause-ranked
returns-clause-ranked g c = λ h ranked. empty_ranked _ _ h c.vacate_selected.ensures

pub returns-clause-done : goal.returns-clause-done
returns-clause-done g c = record {
  emptied = emptied_pool _ _ _ _ _ (seen_down c.self.view_is c.in_ok-write_back_unpinned.ensures.down) (seen_settled c.self.view_is c.in_ok-write_back_unpinned.ensures.down c.in_ok-write_back_unpinned.ensures.flushed) c.in_ok-write_back_unpinned.ensures.unfixed c.self.invariant c.vacate_selected.ensures;
  settled = becomes_empty (λ s. IsSettled s) All _ _ _ _ c.vacate_selected.ensures (empty_settled _ (seen_settled c.self.view_is c.in_ok-write_back_unpinned.ensures.down c.in_ok-write_back_unpinned.ensures.flushed));
  unranked = λ h. empty_ranked _ _ h c.vacate_selected.ensures;
  once = subst (λ (s : PoolState). FlushesOnce c.args.self.now.devices s.devices) (sym c.self.view_is) c.in_ok-write_back_unpinned.ensures.once;
}

pub returns-in_err-write_back_unpinned-clause-refused : goal.returns-in_err-write_back_unpinned-clause-refused
returns-in_err-write_back_unpinned-clause-refused g c = handed_on c.from_residual.result c.in_err-write_back_unpinned.field-0.0 _ c.from_residual.ensures.1 (record {
  cause = c.in_err-write_back_unpinned.ensures.refused;
  once = c.in_err-write_back_unpinned.ensures.once;
})
