use Rattle.std.proofs.Common.{◌≡◌, ◌<◌, length, sym, subst}
use Rattle.warm_frame_table.specs.declared.selection.Devices.TheVariants.{One}
use Rattle.warm_pool.specs.HandingBack.{HandsBackOne}
use Rattle.warm_pool.specs.steps.Retiring.{AreUnfixed}
use Rattle.warm_pool.specs.State.{IsPool, nth_device}
use Rattle.warm_pool.proofs.HandingBackLemmas.{handed_here}
use Rattle.warm_pool.proofs.RetireLemmas.{took_in}
use Rattle.warm_pool.proofs.pool.Pool.install_device.Goals as goal

pub invariant_of-self : goal.invariant_of-self
invariant_of-self g c =
    took_in c.self.inside.frames c.vacate_selected.new.self _ _ _ c.args.dev _ c.self.invariant
    (subst (λ s. c.args.dev < length s.devices) (sym c.self.view_is) c.requires.there)
    (subst (λ s. (g.D.PageDevice.state c.args.device).page_size ≡ s.page_size) (sym c.self.view_is) c.requires.sized)
    (subst (λ s. AreUnfixed (One c.args.dev) s.frames) (sym c.self.view_is) c.requires.unfixed)
    c.vacate_selected.ensures c.exchange.ensures.put

pub returns-clause-handed_back : goal.returns-clause-handed_back
returns-clause-handed_back g c =
    let given = subst (λ s. g.D.PageDevice.state c.exchange.result ≡ nth_device s.devices c.args.dev) c.self.view_is c.exchange.ensures.given in
    subst (λ d. HandsBackOne c.args.self.now c.args.dev d) (sym given) (handed_here c.args.self.now c.args.dev (subst IsPool c.self.view_is c.self.invariant) c.requires.clean c.requires.there c.requires.quiet)
