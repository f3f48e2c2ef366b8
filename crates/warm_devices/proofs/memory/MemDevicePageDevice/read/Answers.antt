use Rattle.std.proofs.Common.{◌*◌, ◌<◌, take, drop, ap, sym, ◌∙◌, arith}
use Rattle.warm_devices.specs.Device.{page_at}
use Rattle.warm_devices.proofs.StoredPageLemmas.{page-read}
use Rattle.warm_devices.proofs.memory.MemDevicePageDevice.read.Goals as goal

pub returns-clause-bytes : goal.returns-clause-bytes
returns-clause-bytes c h =
    let lt : c.args.no < c.self.inside.pages = rw (ap (λ s. s.pages) c.self.view_is) c.requires.known in
    c.copy_from_slice.ensures.after
    ∙ ap (λ n. take n (drop c.place_of-place.result.start c.deref.result.now)) (omega (arith, c.place_of-place.ensures.start, c.place_of-place.ensures.end))
    ∙ ap (λ n. take c.self.inside.page_size (drop n c.deref.result.now)) c.place_of-place.ensures.start
    ∙ ap (λ xs. take c.self.inside.page_size (drop (c.args.no * c.self.inside.page_size) xs)) c.deref.ensures.value
    ∙ sym (page-read c.self.inside.pages c.self.inside.page_size c.args.no c.self.inside.bytes.items lt c.self.invariant)
    ∙ ap (λ s. page_at s.contents c.args.no) c.self.view_is
