use Rattle.std.proofs.Common.{inr, sym, ◌∙◌}
use Rattle.warm_concurrent.proofs.shared.SharedShards.warm_list.Goals as goal

pub returns-in_default-clause-stopped : goal.returns-in_default-clause-stopped
returns-in_default-clause-stopped g c =
    let copied = c.in_ok-copy.ensures.copied in
    inr (c.after_all.ensures.shard ∙ c.count.ensures.value ∙ sym c.requires.count, c.after_all.ensures.fault, (copied.0, copied.1))

pub returns-clause-listed : goal.returns-clause-listed
returns-clause-listed g c = (c.in_ok-copy.copy, c.in_ok-copy.ensures.copied, c.in-Ok.ensures)
