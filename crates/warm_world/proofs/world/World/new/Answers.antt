use Rattle.std.proofs.Common.{◌≡◌, false, length, IsTrue, sym, ◌∙◌, arith}
use Rattle.warm_world.specs.declared.event.BadWorld.TheVariants.{Memory}
use Rattle.warm_world.specs.Opening.{NewWorldRefused}
use Rattle.warm_world.specs.Views.{listed}
use Rattle.warm_world.proofs.ReplicaOpeningLemmas.{count, sized_as}
use Rattle.warm_world.proofs.ReplicaBufferLemmas.{passed_on}
use Rattle.warm_world.proofs.world.World.new.Goals as goal

pub returns-then-not-are_sized-clause-refused : goal.returns-then-not-are_sized-clause-refused
returns-then-not-are_sized-clause-refused g c =
    let same : length c.args.devices.items ≡ c.args.setup.replicas = omega (arith, c.if-len-replicas.false, c.len.ensures, c.args.devices.ok.0, c.replicas.ensures.value) in (
      count _ _ ∙ same,
      λ all. let never : IsTrue false = c.if-not-are_sized.ensures.1 (sized_as _ _ _ _ _ (sym c.page_size.ensures.value) (sym c.deref.ensures.value) all) in absurd (cc),
    )

pub returns-in_err-replicas-clause-refused : goal.returns-in_err-replicas-clause-refused
returns-in_err-replicas-clause-refused g c =
    let same : length c.args.devices.items ≡ c.args.setup.replicas = omega (arith, c.if-len-replicas.false, c.len.ensures, c.args.devices.ok.0, c.replicas.ensures.value) in
    passed_on _ Memory (NewWorldRefused c.args.setup (listed g.D.PageDevice.state c.args.devices.items)) c.from_residual.ensures.1 (count _ _ ∙ same, sized_as _ _ _ _ _ c.page_size.ensures.value c.deref.ensures.value (c.are_sized.ensures.0 c.if-not-are_sized.false))
