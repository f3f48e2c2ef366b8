use Rattle.std.proofs.Common.{◌≡◌, Err, Ok, Result, List, length, refl, sym, ap, subst, ◌∙◌, arith}
use Rattle.std.specs.Prelude.{IfOk}
use Rattle.std.proofs.lemmas.Result.{err_from_is_err_and}
use Rattle.warm_frames.specs.declared.message.Message.{Message}
use Rattle.warm_frames.specs.declared.message.Message.TheVariants.{Entries}
use Rattle.warm_gossip.specs.declared.fault.NodeFault.{NodeFault}
use Rattle.warm_peer.specs.Answers.{refs_in}
use Rattle.warm_gossip.specs.declared.fault.NodeFault.TheVariants.{Memory}
use Rattle.warm_shards.specs.Given.{AreGiven, ReceivesAll}
use Rattle.warm_visits.specs.Given.{at_horizon}
use Rattle.warm_shards.specs.Shards.{shard_at}
use Rattle.warm_visits.specs.Visits.{receive_visit}
use Rattle.warm_shards.proofs.Calls.{first_id}
use Rattle.warm_shards.proofs.GivenLemmas.{raised_gives, raised_late}
use Rattle.warm_shards.proofs.VisitReceives.{no_entries, receives_given, receives_none, receives_some}
use Rattle.warm_shards.proofs.gossip.received.Goals as goal

pub join_parts-requires-clause-shards : goal.join_parts-requires-clause-shards
join_parts-requires-clause-shards g c = c.raise_all.ensures.given.shards

pub join_parts-requires-clause-raised : goal.join_parts-requires-clause-raised
join_parts-requires-clause-raised g c =
    raised_late c.args.nodes.now.items c.raise_all.new.nodes.items c.in-Entries.horizon c.raise_all.ensures.given

pub returns-in_err-join_parts : goal.returns-in_err-join_parts
returns-in_err-join_parts g c =
    let given = err_from_is_err_and c.from_residual.result c.from_residual.ensures.1 in
    let old = c.args.nodes.now.items in
    let new = c.join_parts.new.nodes.items in
    let horizon = c.in-Entries.horizon in
    let es = c.as_slice.result.now in
    let same : Entries c.in-Entries.sender horizon es ≡ c.args.message = (λ i. Entries c.in-Entries.sender horizon (c.as_slice.ensures.value i)) ∙ sym c.in-Entries.is in
    let all = raised_gives old c.raise_all.new.nodes.items new horizon (refs_in (Entries c.in-Entries.sender horizon es)) (Err c.in_err-join_parts.field-0.0) refl c.raise_all.ensures.given c.in_err-join_parts.ensures in
    let got = receives_some c.in-Entries.sender horizon es old new c.in_err-join_parts.field-0.0 all in
    subst (λ (r : Result (List Message) NodeFault). ReceivesAll c.args.message old r new) (sym (given.1 ∙ ap (λ w. Err w) given.2)) (subst (λ (m : Message). ReceivesAll m old (Err c.in_err-join_parts.field-0.0) new) same got)

pub returns-in-Entries : goal.returns-in-Entries
returns-in-Entries g c =
    let old = c.args.nodes.now.items in
    let new = c.join_parts.new.nodes.items in
    let horizon = c.in-Entries.horizon in
    let es = c.as_slice.result.now in
    let same : Entries c.in-Entries.sender horizon es ≡ c.args.message = (λ i. Entries c.in-Entries.sender horizon (c.as_slice.ensures.value i)) ∙ sym c.in-Entries.is in
    let all = raised_gives old c.raise_all.new.nodes.items new horizon (refs_in (Entries c.in-Entries.sender horizon es)) (Ok tt) refl c.raise_all.ensures.given c.in_ok-join_parts.ensures in
    subst (λ (m : Message). ReceivesAll m old (Ok c.of.result) new) same (receives_given c.in-Entries.sender horizon es old new tt c.of.result (c.of.ensures ∙ c.new.ensures.items) all)

pub returns-in_default-receive : goal.returns-in_default-receive
returns-in_default-receive g c =
    let message = c.args.message in
    let none = no_entries message c.in_default.not-Entries in
    let raised = subst (λ t. AreGiven (at_horizon t) c.args.nodes.now.items c.raise_all-in_default-receive.new.nodes.items) c.horizon.ensures c.raise_all-in_default-receive.ensures.given in
    receives_none message c.args.nodes.now.items c.raise_all-in_default-receive.new.nodes.items Memory c.requires none raised refl

pub returns : goal.returns
returns g c =
    let old = c.args.nodes.now.items in
    let message = c.args.message in
    let id = first_id c.index.result.now c.requires c.index.ensures c.id.ensures in
    let count : c.len.result ≡ length old = omega (arith, c.len.ensures, c.args.nodes.now.ok.0) in
    let is : c.in-Ok.visit ≡ receive_visit (shard_at old 0).id (length old) message = subst (λ r. IfOk r (λ visit. visit ≡ receive_visit c.id.result c.len.result message)) c.in-Ok.is c.receive.ensures ∙ (λ i. receive_visit (id i) (count i) message) in
    c.visited.ensures message (no_entries message c.in_default.not-Entries) is
