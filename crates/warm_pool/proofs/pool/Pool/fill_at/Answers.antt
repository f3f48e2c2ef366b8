use Rattle.std.proofs.Common.{◌≡◌, ◌<◌, length, refl, sym, subst, ◌∙◌, arith, ap, inr}
use Rattle.std.proofs.lemmas.List.{length-set}
use Rattle.warm_frame_table.specs.Frames.{nth_frame}
use Rattle.warm_pool.specs.View.{view_of}
use Rattle.warm_pool.specs.Pinning.{PutsIn}
use Rattle.warm_pool.proofs.FrameChoiceLemmas.{pool_seen, has_device, has_number, seen_generation}
use Rattle.warm_pool.proofs.PinLemmas.{failed_ranked, loaded_ranked, loaded_puts, loaded_slot, puts_holds}
use Rattle.warm_pool.proofs.FlushLemmas.{handed_on}
use Rattle.warm_pool.proofs.ZeroingLemmas.{zero_failed}
use Rattle.warm_pool.proofs.FillingLemmas.{filled_takes}
use Rattle.warm_pool.specs.declared.fault.PoolFault.TheVariants.{FixesFull, ReadFault}
use Rattle.warm_pool.specs.declared.slot.Placed.{Placed}
use Rattle.warm_pool.proofs.PlacedLemmas.{placed_loaded}
use Rattle.warm_pool.proofs.OutcomeLemmas.{unput_unread_fails, victim_fails}
use Rattle.warm_pool.proofs.pool.Pool.fill_at.Goals as goal

pub fill_into-requires-clause-below : goal.fill_into-requires-clause-below
fill_into-requires-clause-below g c =
    subst (λ n. n < 18446744073709551615) (c.generation.ensures ∙ ap (λ s. (nth_frame s.frames c.args.at).generation) c.self.view_is) c.if-generation-lt18446744073709551615.true

pub fill_into-requires-clause-device : goal.fill_into-requires-clause-device
fill_into-requires-clause-device g c = has_device (pool_seen c.self.view_is c.self.invariant) _ c.requires.known

pub fill_into-requires-clause-known : goal.fill_into-requires-clause-known
fill_into-requires-clause-known g c = has_number (pool_seen c.self.view_is c.self.invariant) _ c.requires.known

pub returns-in_err-fill_into-clause-ranked : goal.returns-in_err-fill_into-clause-ranked
returns-in_err-fill_into-clause-ranked g c = failed_ranked c.args.self.now c.args.self.now.devices c.fill_into.new.self c.args.at c.args.page _ (zero_failed _ _ _ _ _ c.in_err-fill_into.ensures.refused) c.args.history.now c.requires.ranked

pub returns-then-generation-lt18446744073709551615-clause-ranked : goal.returns-then-generation-lt18446744073709551615-clause-ranked
returns-then-generation-lt18446744073709551615-clause-ranked g c =
    loaded_ranked c.args.self.now c.fill_into.new.self c.args.at c.args.page c.rank_of-key.result 1 c.in_ok-fill_into.ensures.put.loads
    c.requires.there c.args.history.now c.rank_of-key.ensures c.requires.ranked

pub slot_at-slot-requires : goal.slot_at-slot-requires
slot_at-slot-requires g c =
    subst (λ n. c.args.at < n) (sym (ap length c.in_ok-fill_into.ensures.put.loads.frames ∙ length-set _ _ _)) c.requires.there

pub returns-in_err-fill_into-clause-refused : goal.returns-in_err-fill_into-clause-refused
returns-in_err-fill_into-clause-refused g c =
    handed_on c.from_residual.result c.in_err-fill_into.field-0.0 _ c.from_residual.ensures.1 (
    victim_fails c.args.history.now c.args.self.now c.args.page c.requires.known c.requires.absent c.fill_into.new.self c.args.at (c.requires.to_load _ c.requires.ranked)
    (subst (λ n. n < 18446744073709551615) (c.generation.ensures ∙ ap (λ s. (nth_frame s.frames c.args.at).generation) c.self.view_is) c.if-generation-lt18446744073709551615.true)
    c.in_err-fill_into.ensures.unflushed _ c.in_err-fill_into.ensures.unread c.in_err-fill_into.ensures.refused)

pub returns-then-generation-lt18446744073709551615-clause-done : goal.returns-then-generation-lt18446744073709551615-clause-done
returns-then-generation-lt18446744073709551615-clause-done g c =
    let was : c.generation.result ≡ (nth_frame c.args.self.now.frames c.args.at).generation =
    c.generation.ensures ∙ ap (λ s. (nth_frame s.frames c.args.at).generation) c.self.view_is in
    let puts : PutsIn c.args.history.now (view_of c.args.self.now) c.args.page 1 c.slot_at-slot.result (view_of c.fill_into.new.self) =
    subst (λ slot. PutsIn c.args.history.now (view_of c.args.self.now) c.args.page 1 slot (view_of c.fill_into.new.self))
    (sym (loaded_slot c.args.self.now c.fill_into.new.self c.args.at c.args.page c.rank_of-key.result 1 c.in_ok-fill_into.ensures.put.loads
    c.requires.there _ c.slot_at-slot.ensures c.generation.result was))
    (loaded_puts c.args.self.now c.fill_into.new.self c.args.at c.args.page c.rank_of-key.result 1 c.in_ok-fill_into.ensures.put.loads
    c.args.history.now c.requires.absent (c.requires.to_load _ c.requires.ranked) c.generation.result was c.if-generation-lt18446744073709551615.true) in
    let placed : Placed = record { slot = c.slot_at-slot.result; evicted = c.page-evicted.result } in
    record {
      pinned = (c.requires.known, inr puts);
      evicted = placed_loaded (pool_seen c.self.view_is c.self.invariant) c.args.history.now _ c.args.page 1 placed puts (
          c.page-evicted.ensures ∙ ap (λ s. (nth_frame s.frames c.args.at).page) c.self.view_is
          ∙ ap (λ n. (nth_frame c.args.self.now.frames n).page) (sym (ap (λ x. x.index) c.slot_at-slot.ensures)));
      holds = puts_holds c.args.history.now _ c.args.page c.slot_at-slot.result _ puts;
      frame = filled_takes c.args.self.now c.fill_into.new.self c.args.at c.args.page c.rank_of-key.result _ c.in_ok-fill_into.ensures.put c.requires.there c.requires.absent
          c.in_ok-fill_into.ensures.unread c.in_ok-fill_into.ensures.unflushed _ (ap (λ x. x.index) c.slot_at-slot.ensures);
    }

pub returns-clause-refused : goal.returns-clause-refused
returns-clause-refused g c =
    let full : c.generation.result ≡ 18446744073709551615 = omega arith in
    unput_unread_fails c.args.history.now c.args.self.now c.args.page c.requires.known c.requires.absent FixesFull (
      (
        c.args.at,
        c.requires.to_load _ c.requires.ranked,
        sym (seen_generation (pool_seen c.self.view_is c.self.invariant) c.args.at (c.generation.ensures ∙ ap (λ s. (nth_frame s.frames c.args.at).generation) c.self.view_is)) ∙ full,
      ),
      refl,
    ) (λ is. let no : FixesFull ≡ ReadFault = is in absurd (cc)) refl
