use Rattle.std.proofs.Common.{◌≡◌, ◌<◌, ◌≤◌, length, true, subst, ◌∙◌, arith}
use Rattle.warm_frames.specs.Limits.{horizon_in}
use Rattle.warm_shards.specs.Shards.{shard_at, whole}
use Rattle.warm_visits.specs.Visits.{receive_visit}
use Rattle.warm_shards.proofs.AnswerLemmas.{not_later}
use Rattle.warm_shards.proofs.Calls.{first_id}
use Rattle.warm_shards.proofs.VisitReceives.{answers_so, no_entries, only_memory, same_not_later}
use Rattle.warm_shards.proofs.answers.answered.Goals as goal

pub returns : goal.returns
returns g c =
    let old = c.args.nodes.now.items in
    let new = c.visited.new.nodes.items in
    let message = c.args.message.now in
    let none = no_entries message c.in_default.not-Entries in
    let id = first_id c.index.result.now c.requires c.index.ensures c.id.ensures in
    let count : c.len.result ≡ length old = omega (arith, c.len.ensures, c.args.nodes.now.ok.0) in
    let is : c.in_ok-visit.visit ≡ receive_visit (shard_at old 0).id (length old) message = c.in_ok-visit.ensures ∙ (λ i. receive_visit (id i) (count i) message) in
    let had = c.visited.ensures message none is in
    let le : horizon_in message ≤ (whole old).horizon = not_later c.is_later.result (whole old).horizon (horizon_in message) c.if-is_later.false (subst (λ t. (whole old).horizon < t → c.is_later.result ≡ true) c.horizon.ensures c.is_later.ensures.1) in
    record {
      answers = answers_so message old new c.visited.result had;
      refused = only_memory message old new c.visited.result had;
      same = same_not_later message old new c.visited.result c.requires none le had;
    }
