use Rattle.std.proofs.Common.{◌≡◌, Err, subst, ◌∙◌, arith}
use Rattle.std.proofs.lemmas.Result.{err_from_is_err_and}
use Rattle.warm_history.specs.Histories.{HistoryView, history_of_entries_at, references_of}
use Rattle.warm_shards.specs.Given.{Gives}
use Rattle.warm_shards.proofs.GivenLemmas.{gives_none, raised_gives, raised_late}
use Rattle.warm_shards.proofs.gossip.join_all.Goals as goal

pub returns-in_err-entries : goal.returns-in_err-entries
returns-in_err-entries g c =
    let given = err_from_is_err_and c.from_residual.result c.from_residual.ensures.1 in
    let old = c.args.nodes.now.items in
    let mid = c.raise_all.new.nodes.items in
    let S = references_of c.args.other.now in
    let raised = c.raise_all.ensures.given in
    rw (given.1) (raised_gives old mid mid c.horizon.result S (Err given.0) c.horizon.ensures.value raised (gives_none S mid given.0 raised.shards (omega (arith, c.horizon.ensures.value, raised_late old mid c.horizon.result raised)) given.2))

pub join_parts-requires-clause-shards : goal.join_parts-requires-clause-shards
join_parts-requires-clause-shards g c = c.raise_all.ensures.given.shards

pub join_parts-requires-clause-raised : goal.join_parts-requires-clause-raised
join_parts-requires-clause-raised g c =
    let late = raised_late c.args.nodes.now.items c.raise_all.new.nodes.items c.horizon.result c.raise_all.ensures.given in
    omega (arith, c.horizon.ensures.value, c.horizon-2.ensures.value, late)

pub returns : goal.returns
returns g c =
    let old = c.args.nodes.now.items in
    let mid = c.raise_all.new.nodes.items in
    let new = c.join_parts.new.nodes.items in
    let entries = c.deref.ensures.value ∙ c.in_ok-entries.ensures in
    let horizon = c.horizon-2.ensures.value in
    let same : history_of_entries_at c.horizon-2.result c.deref.result.now ≡ c.args.other.now = λ i. history_of_entries_at (horizon i) (entries i) in
    raised_gives old mid new c.horizon.result (references_of c.args.other.now) c.join_parts.result c.horizon.ensures.value c.raise_all.ensures.given (subst (λ (h : HistoryView). Gives (references_of h) mid c.join_parts.result new) same c.join_parts.ensures)
