use Rattle.std.proofs.Common.{◌≡◌, ℕ, ◌*◌, ◌<◌, List, length, ap, sym, ◌∙◌, subst}
use Rattle.std.proofs.Math.ListN.{set}
use Rattle.std.proofs.lemmas.List.{get_or-set_same}
use Rattle.warm_devices.specs.Device.{page_at, ChangesPage}
use Rattle.warm_devices.specs.Pieces.{equal_pieces, with_part}
use Rattle.warm_devices.proofs.PageListLemmas.{changes-set}
use Rattle.warm_devices.proofs.StoredPageLemmas.{page-write, pieces-count}
use Rattle.warm_devices.proofs.memory.MemDevicePageDevice.write.Goals as goal

is_page : (c : goal.After-note) → c.args.no < c.self.inside.pages
is_page c = rw (ap (λ s. s.pages) c.self.view_is) c.requires.known

-- the pages before the write
before : goal.After-note → List (List ℕ)
before c = equal_pieces c.self.inside.pages c.self.inside.page_size c.self.inside.bytes.items

-- the pages after it
written : (c : goal.After-note) → equal_pieces c.self.inside.pages c.self.inside.page_size c.write_at.new.all.items ≡ set (before c) c.args.no c.args.bytes.now
unfolding before
written c =
    let size = c.self.inside.page_size in
    ap (equal_pieces c.self.inside.pages size)
    (c.write_at.ensures.part
    ∙ ap (λ start. with_part start c.place_of-place.result.end c.args.bytes.now c.self.inside.bytes.items) c.place_of-place.ensures.start
    ∙ ap (λ end. with_part (c.args.no * size) end c.args.bytes.now c.self.inside.bytes.items) c.place_of-place.ensures.end)
    ∙ page-write c.self.inside.pages size c.args.no c.self.inside.bytes.items c.args.bytes.now (is_page c) c.self.invariant (c.requires.sized ∙ sym (ap (λ s. s.page_size) c.self.view_is))

pub returns-clause-others : goal.returns-clause-others
unfolding before
returns-clause-others c =
    subst (ChangesPage c.args.no c.args.self.now.contents) (sym (written c))
    (subst (λ s. ChangesPage c.args.no s.contents (set (before c) c.args.no c.args.bytes.now)) c.self.view_is (changes-set (before c) c.args.no c.args.bytes.now))

pub returns-clause-bytes : goal.returns-clause-bytes
unfolding before
returns-clause-bytes c h =
    let known : c.args.no < length (before c) = rw (pieces-count c.self.inside.pages c.self.inside.page_size c.self.inside.bytes.items) (is_page c) in
    ap (λ pages. page_at pages c.args.no) (written c) ∙ get_or-set_same (before c) c.args.no c.args.bytes.now _ known
