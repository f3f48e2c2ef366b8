use Rattle.std.proofs.Common.{ap, sym, ◌∙◌}
use Rattle.warm_pool.proofs.DeviceCallLemmas.{device_is, sized_more}
use Rattle.warm_pool.proofs.device_list.all_sized.Goals as goal

pub returns-then-page_size : goal.returns-then-page_size
returns-then-page_size g c = (
  λ h. absurd (cc),
  λ all. absurd (c.if-page_size.true (c.page_size.ensures ∙ ap (λ d. d.page_size) (device_is _ _ _ _ c.loop-device-test.true c.device-item.is) ∙ all _ c.loop-device-test.true)),
)

pub loop-device-preserved : goal.loop-device-preserved
loop-device-preserved g c =
    sized_more _ _ _ _ _ c.device-item.is c.loop-device-test.true (sym c.page_size.ensures ∙ c.if-page_size.false) c.loop-device.invariant
