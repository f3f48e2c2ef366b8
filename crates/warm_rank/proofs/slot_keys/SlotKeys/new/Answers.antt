use Rattle.std.proofs.Common.{ap, ◌∙◌}
use Rattle.warm_rank.specs.Slots.{keys_set}
use Rattle.warm_rank.proofs.SetKeyLemmas.{none_set}
use Rattle.warm_rank.proofs.slot_keys.SlotKeys.new.Goals as goal

pub returns : goal.returns
returns c = ap (λ all. keys_set all c.in_ok-keys.keys.items) c.in_ok-is_set.ensures ∙ none_set c.args.slots c.in_ok-keys.keys.items c.in_ok-keys.ensures
