use Rattle.std.proofs.Common.{◌<◌, ◌*◌, ◌^◌, List, Contains, pos, rules, subst, take_all}
use Rattle.warm_c_base.specs.declared.values.WarmDevice.{WarmDevice}
use Rattle.warm_c_base.proofs.DeviceLemmas.{clash_refuses, contains_next, made_next}
use Rattle.warm_c_base.proofs.device_list.devices_of.Goals as goal

pub loop-device-preserved : goal.loop-device-preserved
loop-device-preserved c =
    let ds = c.args.devices.now in
    let i = c.loop-device.device-index in
    let x : WarmDevice = record { pages = 0; fd = pos 0 } in
    record {
      made =
          rw c.push_reserved.ensures.items
          (made_next ds i x c.args.page_size c.loop-device.made.items c.in-Some.device _ (search rules) c.loop-device.invariant.made (search rules) c.in-Some.ensures.opened);
      count = search rules;
      room = search rules;
      few = c.loop-device.invariant.few;
      fit = contains_next ds i x (λ d. d.pages * c.args.page_size < 2 ^ 63) (search rules) c.loop-device.invariant.fit c.in-Some.ensures.fits;
    }

pub returns-in-Err : goal.returns-in-Err
returns-in-Err c =
    let fit =
    subst (λ (l : List WarmDevice). (d : WarmDevice) → Contains l d → d.pages * c.args.page_size < 2 ^ 63) (take_all c.loop-device.device-index c.args.devices.now (search rules))
    c.loop-device.invariant.fit in
    record {
      made = tt;
      few = tt;
      are = tt;
      apart = tt;
      refused = clash_refuses c.args.page_size c.args.devices.now c.in-Err.why (record { few = c.loop-device.invariant.few; fit = fit }) c.in-Err.ensures.refused;
    }
