use Rattle.std.proofs.Common.{◌≡◌, inl, inr, ◌<◌, length, refl, sym, ap, subst, ◌∙◌, arith}
use Rattle.std.proofs.lemmas.List.{get_or_read, length-map}
use Rattle.std.proofs.lemmas.Bool.{cases_eq}
use Rattle.warm_devices.specs.Device.{DeviceState}
use Rattle.warm_pool.specs.State.{nth_device}
use Rattle.warm_pool.specs.View.{view_of}
use Rattle.warm_shards.specs.ShardsOfNodes.{AreOwnOf}
use Rattle.warm_shards.proofs.Residents.{all_own, device_read, each_own}
use Rattle.warm_shards.proofs.shards_of_nodes.keeps_only.Goals as goal

pub returns-then-not-are_own_of : goal.returns-then-not-are_own_of
returns-then-not-are_own_of g c =
    (λ no. absurd (cc), λ has. c.if-not-are_own_of.ensures.1 (each_own c.args.count c.args.shard (view_of c.args.pool.now) c.loop-dev.dev c.pages.result has))

pub loop-dev-preserved : goal.loop-dev-preserved
loop-dev-preserved g c k lt =
    let s = c.args.pool.now in
    let ds = c.devices-devices.result.now in
    let dev = c.loop-dev.dev in
    let x = c.index-devices-dev.result in
    let there : dev < length ds = omega (arith, c.loop-dev-test.true) in
    let read = device_read (λ d. g.D.PageDevice.state d) ds s dev x x c.devices-devices.ensures there (get_or_read ds dev x there c.index-devices-dev.is x) in
    let pages : c.pages.result ≡ (nth_device s.devices dev).pages = c.pages.ensures ∙ ap (λ (d : DeviceState). d.pages) read in
    let here : AreOwnOf c.args.count c.args.shard (view_of s) dev (nth_device s.devices dev).pages = subst (AreOwnOf c.args.count c.args.shard (view_of s) dev) pages (c.if-not-are_own_of.ensures.0 refl) in
    elim (cases_eq k dev) [
      | inl same ↦ subst (λ i. AreOwnOf c.args.count c.args.shard (view_of s) i (nth_device s.devices i).pages) (sym same) here
      | inr other ↦ c.loop-dev.invariant k (omega (arith, lt, other))
    ]

pub returns : goal.returns
returns g c =
    let ds = c.devices-devices.result.now in
    let long : length ds ≡ length c.args.pool.now.devices = sym (length-map ds (λ d. g.D.PageDevice.state d)) ∙ ap length c.devices-devices.ensures in
    (λ yes. all_own c.args.count c.args.shard c.args.pool.now c.prove_is_pool.ensures (λ k lt. c.loop-dev.invariant k (omega (arith, lt, c.loop-dev-test.false, long))), λ has. refl)
