use Rattle.std.proofs.Common.{◌≡◌, ◌<◌, length, ap, sym, subst, arith}
use Rattle.std.proofs.lemmas.List.{get_or_read}
use Rattle.warm_frame_table.specs.Frames.{one_if}
use Rattle.warm_frame_table.specs.stored.Parts.{unused_status}
use Rattle.warm_frame_table.specs.stored.Statuses.{status_at}
use Rattle.warm_frame_table.proofs.StatusLemmas.{dirty_all, dirty_one, dirty_set}
use Rattle.warm_frame_table.proofs.statuses.Statuses.put.Goals as goal

pub recounted-self-inside-requires-clause-some : goal.recounted-self-inside-requires-clause-some
recounted-self-inside-requires-clause-some c =
    let all = c.self.inside.all.items in
    let there : c.args.at < length all = subst (λ ss. c.args.at < length ss) (sym c.self.view_is) c.requires in
    let was : c.index.result.now ≡ status_at all c.args.at = get_or_read all c.args.at _ there c.index.ensures unused_status in
    let same : one_if c.index.result.now.dirty ≡ one_if (status_at all c.args.at).dirty = ap (λ s. one_if s.dirty) was in
    let one = dirty_one all c.args.at in
    omega (arith, one, same, c.self.invariant)

pub recounted-self-inside-requires-clause-room : goal.recounted-self-inside-requires-clause-room
recounted-self-inside-requires-clause-room c =
    let most = dirty_all c.self.inside.all.items in
    omega (arith, most, c.self.invariant, c.self.inside.all.ok.0, c.self.inside.all.ok.1, c.self.inside.all.small)

pub invariant_of-self : goal.invariant_of-self
invariant_of-self c =
    let all = c.self.inside.all.items in
    let there : c.args.at < length all = subst (λ ss. c.args.at < length ss) (sym c.self.view_is) c.requires in
    let was : c.index.result.now ≡ status_at all c.args.at = get_or_read all c.args.at _ there c.index.ensures unused_status in
    let same : one_if c.index.result.now.dirty ≡ one_if (status_at all c.args.at).dirty = ap (λ s. one_if s.dirty) was in
    let replaced = dirty_set all c.args.at c.args.status there in
    omega (arith, replaced, same, c.self.invariant, c.recounted-self-inside.ensures)
