use Rattle.std.proofs.Common.{◌<◌, ap, ◌∙◌, sym, subst}
use Rattle.std.proofs.lemmas.List.{map-set}
use Rattle.warm_pool.proofs.DeviceCallLemmas.{device_is, page_written}
use Rattle.warm_pool.proofs.device_list.write_page.Goals as goal

pub write-done-requires-clause-known : goal.write-done-requires-clause-known
write-done-requires-clause-known g c = subst (λ d. c.args.page.no < d.pages) (sym (device_is _ _ _ _ c.requires.device c.index_mut.ensures.value)) c.requires.known

pub write-done-requires-clause-sized : goal.write-done-requires-clause-sized
write-done-requires-clause-sized g c = c.requires.sized ∙ ap (λ d. d.page_size) (sym (device_is _ _ _ _ c.requires.device c.index_mut.ensures.value))

pub returns : goal.returns
returns g c =
    page_written _ _ _ _ _ _ _ _ (device_is _ _ _ _ c.requires.device c.index_mut.ensures.value) (map-set _ _ _ _) (record {
      shape = c.write-done.ensures.shape;
      faults = c.write-done.ensures.faults;
      calls = c.write-done.ensures.calls;
      unfailing = c.write-done.ensures.unfailing;
      waiting = c.write-done.ensures.waiting;
      others = c.write-done.ensures.others;
      written = c.write-done.ensures.bytes;
    })
