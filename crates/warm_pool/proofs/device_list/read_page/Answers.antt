use Rattle.std.proofs.Common.{◌<◌, ap, ◌∙◌, sym, subst, length}
use Rattle.std.proofs.lemmas.List.{map-set}
use Rattle.warm_pool.proofs.DeviceCallLemmas.{device_is, lent_bytes, page_read}
use Rattle.warm_pool.proofs.device_list.read_page.Goals as goal

pub read-done-requires-clause-known : goal.read-done-requires-clause-known
read-done-requires-clause-known g c = subst (λ d. c.args.page.no < d.pages) (sym (device_is _ _ _ _ c.requires.device c.index_mut.ensures.value)) c.requires.known

pub read-done-requires-clause-sized : goal.read-done-requires-clause-sized
read-done-requires-clause-sized g c =
    ap length c.deref_mut.ensures.value ∙ c.requires.sized ∙ ap (λ d. d.page_size) (sym (device_is _ _ _ _ c.requires.device c.index_mut.ensures.value))

pub returns-clause-call : goal.returns-clause-call
returns-clause-call g c =
    page_read _ _ _ _ _ _ _ _ (device_is _ _ _ _ c.requires.device c.index_mut.ensures.value) (map-set _ _ _ _) (record {
      shape = c.read-done.ensures.shape;
      faults = c.read-done.ensures.faults;
      calls = c.read-done.ensures.calls;
      unfailing = c.read-done.ensures.unfailing;
      waiting = c.read-done.ensures.waiting;
      contents = c.read-done.ensures.contents;
      read = lent_bytes _ c.read-done.result _ c.read-done.new.into c.args.into.now.items _ c.args.into.now.ok.0 (c.read-done.auto.into ∙ ap length c.deref_mut.ensures.value) c.read-done.ensures.bytes;
    })
