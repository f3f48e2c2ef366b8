use Rattle.std.proofs.Common.{rules}
use Rattle.warm_maps.proofs.CutLemmas.{cut_from_retain}
use Rattle.warm_maps.proofs.page_map.forget_in.Goals as goal

pub returns : goal.returns
returns g c = cut_from_retain _ c.args.horizon _ (λ k v b w g called. (search rules, search rules)) _ _ c.retain.ensures.filtered
