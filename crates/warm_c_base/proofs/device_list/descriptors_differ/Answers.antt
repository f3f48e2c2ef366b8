use Rattle.std.proofs.Common.{◌≡◌, sym, subst, subst₂, ◌∙◌, arith, length, nat_eq, Decides, int_cmp}
use Rattle.std.proofs.IntoIterSteps.{All-taken}
use Rattle.std.specs.BTreeSet.{IsFromIterResult}
use Rattle.warm_c_base.specs.DeviceLists.{AllDiffer}
use Rattle.warm_c_base.proofs.DistinctLemmas.{integers_decide}
use Rattle.warm_c_base.proofs.device_list.descriptors_differ.Goals as goal

pub returns : goal.returns
returns c =
    let items = c.args.fds.items in
    let made = c.in_ok-distinct.distinct in
    let h = c.in_ok-distinct.ensures.ran in
    let from = subst (λ l. IsFromIterResult int_cmp l made) (All-taken h.0 h.1 ((h.3.2 tt).0, (h.3.0, h.3.1, (h.3.2 tt).1)) ∙ h.2.0) h.4 in
    let count : c.len-count.result ≡ length items = omega (arith, c.args.fds.ok.0, c.len-count.ensures) in
    subst₂ (λ n m. Decides (nat_eq n m) (AllDiffer items)) (sym c.len.ensures.len) (sym count) (integers_decide items made from)
