use Rattle.std.proofs.Common.{◌∙◌, ap, length, sym}
use Rattle.warm_rank.specs.Laws.{pages_in}
use Rattle.warm_pool.proofs.ResidentLemmas.{seen_held}
use Rattle.warm_pool.proofs.pool.Pool.resident_count.Goals as goal

pub returns : goal.returns
returns g c = rw (← c.self.view_is) (c.held.ensures ∙ ap (λ ps. length (pages_in ps)) (sym (seen_held c.self.inside.frames.frames)))
