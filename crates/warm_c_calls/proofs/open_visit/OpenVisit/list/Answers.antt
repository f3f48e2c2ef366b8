use Rattle.std.proofs.Common.{◌≡◌, ◌≤◌, ◌∙◌, length, sym, ap, subst}
use Rattle.std.proofs.lemmas.List.{length-map}
use Rattle.warm_history.specs.Histories.{references_of}
use Rattle.warm_history.proofs.JoinLemmas.{history_of_own_references}
use Rattle.warm_rank.specs.Ranking.{hottest_pages}
use Rattle.warm_c_base.specs.Values.{c_page}
use Rattle.warm_c_calls.proofs.ListLemmas.{few_listed}
use Rattle.warm_c_calls.proofs.open_visit.OpenVisit.list.Goals as goal

pub put_pages-requires : goal.put_pages-requires
put_pages-requires c =
    let h = c.in-Some.history.now in
    let room = length c.args.pages.now in
    let hottest : c.in_ok-hottest.hottest.items ≡ hottest_pages (references_of h) room = c.in_ok-hottest.ensures (references_of h) (sym (history_of_own_references h c.prove_is_history.ensures)) in
    let listed : length c.deref-2.result.now ≡ length c.in_ok-hottest.hottest.items = ap length (c.deref-2.ensures.value ∙ c.in_ok-listed.ensures) ∙ length-map c.deref.result.now c_page ∙ ap length c.deref.ensures.value in
    subst (λ n. n ≤ room) (sym (listed ∙ ap length hottest)) (few_listed (references_of h) room)
