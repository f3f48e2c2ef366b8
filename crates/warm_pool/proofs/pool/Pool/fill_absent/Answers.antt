use Rattle.warm_pool.specs.declared.fault.PoolFault.TheVariants.{AllFixed, ReadFault}
use Rattle.std.proofs.Common.{refl, ◌≡◌}
use Rattle.warm_pool.proofs.OutcomeLemmas.{unput_unread_fails}
use Rattle.warm_pool.proofs.pool.Pool.fill_absent.Goals as goal

pub returns-in_default-clause-refused : goal.returns-in_default-clause-refused
returns-in_default-clause-refused g c =
    rw c.frame_to_load.ensures.same (unput_unread_fails c.args.history.now c.args.self.now c.args.page c.requires.known c.requires.absent AllFixed
    (c.in_default.ensures.to_load c.args.history.now c.requires.ranked, refl) (λ is. let no : AllFixed ≡ ReadFault = is in absurd (cc)) refl)

pub returns-clause-done : goal.returns-clause-done
returns-clause-done g c = rw c.frame_to_load.ensures.same at c.fill_at.ensures.done

pub returns-clause-refused : goal.returns-clause-refused
returns-clause-refused g c = rw c.frame_to_load.ensures.same at c.fill_at.ensures.refused
