use Rattle.std.proofs.Common.{length, sym, ap, ◌∙◌}
use Rattle.warm_rank.specs.Slots.{keys_while}
use Rattle.warm_rank.proofs.SetKeyLemmas.{length-keys_set}
use Rattle.warm_rank.proofs.slot_keys.SlotKeys.clear_vacant.Goals as goal

pub unset_vacant-requires : goal.unset_vacant-requires
unset_vacant-requires g c = c.requires ∙ ap length (sym c.self.view_is) ∙ length-keys_set _ _ c.self.invariant

pub returns : goal.returns
returns g c = c.unset_vacant.ensures.keys c.self.inside.keys.items c.self.invariant ∙ ap (keys_while c.args.held.now) c.self.view_is
