use Rattle.std.proofs.Common.{◌≡◌, ◌<◌, length, ap, sym, ◌∙◌, subst}
use Rattle.std.proofs.lemmas.List.{get_or_read}
use Rattle.warm_frame_table.specs.stored.Parts.{unused_status}
use Rattle.warm_frame_table.specs.stored.Statuses.{status_at}
use Rattle.warm_frame_table.proofs.StatusLemmas.{dirty_same}
use Rattle.warm_frame_table.proofs.statuses.Statuses.fix.Goals as goal

pub invariant_of-self : goal.invariant_of-self
invariant_of-self c =
    let all = c.self.inside.all.items in
    let there : c.args.at < length all = subst (λ ss. c.args.at < length ss) (sym c.self.view_is) c.requires.there in
    let was : c.index_mut-status.result.now ≡ status_at all c.args.at = get_or_read all c.args.at _ there c.index_mut-status.ensures.value unused_status in
    c.self.invariant ∙ dirty_same all c.args.at _ there (ap (λ s. s.dirty) was)
