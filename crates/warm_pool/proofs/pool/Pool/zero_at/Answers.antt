use Rattle.std.proofs.Common.{◌≡◌, ◌<◌, length, refl, sym, subst, ◌∙◌, arith, ap, inr}
use Rattle.std.proofs.lemmas.List.{length-set}
use Rattle.warm_frame_table.specs.Frames.{nth_frame}
use Rattle.warm_pool.specs.View.{view_of}
use Rattle.warm_pool.specs.Zeroing.{PutsZeros}
use Rattle.warm_pool.proofs.FrameChoiceLemmas.{pool_seen, has_device, has_number, seen_generation}
use Rattle.warm_pool.proofs.PinLemmas.{failed_ranked}
use Rattle.warm_pool.proofs.FlushLemmas.{handed_on}
use Rattle.warm_pool.proofs.ZeroingLemmas.{zero_failed, zeroed_ranked, zeroed_slot, zeroed_puts, zeroed_takes, zeroed_holds}
use Rattle.warm_pool.specs.declared.fault.PoolFault.TheVariants.{FixesFull, ReadFault}
use Rattle.warm_pool.proofs.OutcomeLemmas.{unput_unread_fails, victim_fails}
use Rattle.warm_pool.proofs.pool.Pool.zero_at.Goals as goal

pub zero_into-requires-clause-below : goal.zero_into-requires-clause-below
zero_into-requires-clause-below g c =
    subst (λ n. n < 18446744073709551615) (c.generation.ensures ∙ ap (λ s. (nth_frame s.frames c.args.at).generation) c.self.view_is) c.if-generation-lt18446744073709551615.true

pub zero_into-requires-clause-device : goal.zero_into-requires-clause-device
zero_into-requires-clause-device g c = has_device (pool_seen c.self.view_is c.self.invariant) _ c.requires.known

pub zero_into-requires-clause-known : goal.zero_into-requires-clause-known
zero_into-requires-clause-known g c = has_number (pool_seen c.self.view_is c.self.invariant) _ c.requires.known

pub returns-in_err-zero_into-clause-ranked : goal.returns-in_err-zero_into-clause-ranked
returns-in_err-zero_into-clause-ranked g c = failed_ranked c.args.self.now c.args.self.now.devices c.zero_into.new.self c.args.at c.args.page _ (zero_failed _ _ _ _ _ c.in_err-zero_into.ensures.refused) c.args.history.now c.requires.ranked

pub returns-then-generation-lt18446744073709551615-clause-ranked : goal.returns-then-generation-lt18446744073709551615-clause-ranked
returns-then-generation-lt18446744073709551615-clause-ranked g c =
    zeroed_ranked c.args.self.now c.zero_into.new.self c.args.at c.args.page c.rank_of-key.result c.in_ok-zero_into.ensures.put
    c.requires.there c.args.history.now c.rank_of-key.ensures c.requires.ranked

pub slot_at-requires : goal.slot_at-requires
slot_at-requires g c =
    subst (λ n. c.args.at < n) (sym (ap length c.in_ok-zero_into.ensures.put.frames ∙ length-set _ _ _)) c.requires.there

pub returns-in_err-zero_into-clause-refused : goal.returns-in_err-zero_into-clause-refused
returns-in_err-zero_into-clause-refused g c =
    handed_on c.from_residual.result c.in_err-zero_into.field-0.0 _ c.from_residual.ensures.1 (
    victim_fails c.args.history.now c.args.self.now c.args.page c.requires.known c.requires.absent c.zero_into.new.self c.args.at (c.requires.to_load _ c.requires.ranked)
    (subst (λ n. n < 18446744073709551615) (c.generation.ensures ∙ ap (λ s. (nth_frame s.frames c.args.at).generation) c.self.view_is) c.if-generation-lt18446744073709551615.true)
    c.in_err-zero_into.ensures.unflushed _ c.in_err-zero_into.ensures.unread c.in_err-zero_into.ensures.refused)

pub returns-then-generation-lt18446744073709551615-clause-done : goal.returns-then-generation-lt18446744073709551615-clause-done
returns-then-generation-lt18446744073709551615-clause-done g c =
    let was : c.generation.result ≡ (nth_frame c.args.self.now.frames c.args.at).generation =
    c.generation.ensures ∙ ap (λ s. (nth_frame s.frames c.args.at).generation) c.self.view_is in
    let puts : PutsZeros c.args.history.now (view_of c.args.self.now) c.args.page c.slot_at.result (view_of c.zero_into.new.self) =
    subst (λ slot. PutsZeros c.args.history.now (view_of c.args.self.now) c.args.page slot (view_of c.zero_into.new.self))
    (sym (zeroed_slot c.args.self.now c.zero_into.new.self c.args.at c.args.page c.rank_of-key.result c.in_ok-zero_into.ensures.put
    c.requires.there _ c.slot_at.ensures c.generation.result was))
    (zeroed_puts c.args.self.now c.zero_into.new.self c.args.at c.args.page c.rank_of-key.result c.in_ok-zero_into.ensures.put
    c.requires.there c.args.history.now c.requires.absent (c.requires.to_load _ c.requires.ranked) c.generation.result was c.if-generation-lt18446744073709551615.true) in
    record {
      pinned = (c.requires.known, inr puts);
      holds = zeroed_holds c.args.history.now _ c.args.page c.slot_at.result _ puts;
      frame = zeroed_takes c.args.self.now c.zero_into.new.self c.args.at c.args.page c.rank_of-key.result c.in_ok-zero_into.ensures.put c.requires.there c.requires.absent c.in_ok-zero_into.ensures.unflushed _ (ap (λ x. x.index) c.slot_at.ensures);
    }

pub returns-clause-refused : goal.returns-clause-refused
returns-clause-refused g c =
    let full : c.generation.result ≡ 18446744073709551615 = omega arith in
    unput_unread_fails c.args.history.now c.args.self.now c.args.page c.requires.known c.requires.absent FixesFull (
      (
        c.args.at,
        c.requires.to_load _ c.requires.ranked,
        sym (seen_generation (pool_seen c.self.view_is c.self.invariant) c.args.at (c.generation.ensures ∙ ap (λ s. (nth_frame s.frames c.args.at).generation) c.self.view_is)) ∙ full,
      ),
      refl,
    ) (λ is. let no : FixesFull ≡ ReadFault = is in absurd (cc)) refl
