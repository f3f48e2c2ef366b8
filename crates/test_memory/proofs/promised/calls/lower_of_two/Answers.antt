use Rattle.std.proofs.Common.{◌≡◌, ◌∙◌, List, Option, true, false, Bool, cond, length, set, refl, ap}
use Rattle.std.proofs.lemmas.List.{length-set}
use Rattle.std.specs.Ordering.{is_gt}
use Rattle.warm_rank.specs.declared.RankKey.{RankKey}
use Rattle.warm_rank.specs.Keys.{key_cmp}
use Rattle.warm_rank.specs.Slots.{key_at, set_first_cmp}
use Rattle.test_memory.proofs.promised.calls.lower_of_two.Goals as goal

pub returns : goal.returns
returns c =
    let keys : List (Option RankKey) = c.args.contest.now in
    let slot : _ = c.args.slot in
    let key : Option RankKey = c.args.key in
    let same : (t : Bool) → length (cond t (set keys slot key) keys) ≡ length keys =
    λ t. elim t as (λ t. length (cond t (set keys slot key) keys) ≡ length keys) [ true ↦ length-set keys slot key | false ↦ refl ] in
    ap length c.lower.ensures ∙ same (is_gt (set_first_cmp key_cmp (key_at keys slot) key)) ∙ c.requires.two
