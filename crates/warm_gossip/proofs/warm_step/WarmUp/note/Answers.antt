use Rattle.std.proofs.Common.{inl, inr, refl}
use Rattle.warm_gossip.proofs.warm_step.WarmUp.note.Goals as goal

-- no list is kept
pub returns-in_default : goal.returns-in_default
returns-in_default g c = inl c.in_default.is

-- the pages are noted
pub returns-in-Ok : goal.returns-in-Ok
returns-in-Ok g c = inr (refl, refl, c.in-Ok.ensures)

-- the list is dropped
pub returns : goal.returns
returns g c = inl c.new.ensures
